-- What a print of bytes asks: a turn writes the digits of one byte more.
-- Assumes nothing.
use Rattle.std.proofs.Common.{◌≡◌, ℕ, List, [], ◌∷◌, ◌++◌, length, ◌+◌, ◌/◌, ◌%◌, ◌<◌, take, get_or, refl, arith, rules, append_assoc}
use Rattle.std.proofs.lemmas.List.{take_more}
use Rattle.std.proofs.lemmas.Str.{encode_ascii}
use Rattle.std.specs.Char.{encode_utf8}
use Rattle.hexadecimal.specs.Hex.{digit, hex_of}

hex_append : (a b : List ℕ) → hex_of (a ++ b) ≡ hex_of a ++ hex_of b
hex_append [] b = refl
hex_append (x ∷ a) b = rw (hex_append a b)

digit_ascii : (d : ℕ) → d < 16 → digit d < 128
digit_ascii d h = search rules

one_digit : (d : ℕ) → d < 16 → encode_utf8 (digit d) ≡ digit d ∷ []
one_digit d h = encode_ascii (digit d) (digit_ascii d h)

pub turn : (xs : List ℕ) (i : ℕ) → i < length xs → get_or xs i 0 < 256
    → (hex_of (take i xs) ++ encode_utf8 (digit (get_or xs i 0 / 16))) ++ encode_utf8 (digit (get_or xs i 0 % 16)) ≡ hex_of (take (i + 1) xs)
turn xs i h small =
    let x = get_or xs i 0 in
    let high : x / 16 < 16 = omega arith in
    let low : x % 16 < 16 = omega arith in
    rw (one_digit (x / 16) high, one_digit (x % 16) low, take_more xs i 0 h, hex_append (take i xs) (x ∷ []), append_assoc (hex_of (take i xs)) (digit (x / 16) ∷ []) (digit (x % 16) ∷ []))
