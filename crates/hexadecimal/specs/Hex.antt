-- Bytes as lower-case hex digits, in ASCII.
-- Assumes nothing.
use Rattle.std.specs.Prelude.{Bool, cond, List, [], ◌∷◌, ◌++◌, ℕ, ◌+◌, ◌*◌, ◌/◌, ◌%◌, leb, ltb, length, take, drop}

-- a digit of 0 to 15: `0` to `9`, then `a` to `f`
abbrev pub digit : ℕ → ℕ
digit d = cond (ltb d 10) (48 + d) (87 + d)

-- two digits for each byte, the high half first
abbrev pub hex_of : List ℕ → List ℕ
hex_of [] = []
hex_of (b ∷ bs) = digit (b / 16) ∷ digit (b % 16) ∷ hex_of bs

-- whether a text of `size` bytes has room for the digits of n bytes from `at` on
abbrev pub fits : ℕ → ℕ → ℕ → Bool
fits size at n = leb (at + 2 * n) size

-- the text with the bytes' digits from `at` on; unaltered where they do not fit
unfoldable pub with_hex : List ℕ → ℕ → List ℕ → List ℕ
with_hex text at bytes = cond (fits (length text) at (length bytes)) (take at text ++ hex_of bytes ++ drop (at + 2 * length bytes) text) text
