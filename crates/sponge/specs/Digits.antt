-- The bytes of a number, most significant first: what the length encodings of the draft and of SP 800-185 share.
-- Assumes nothing.
use Rattle.std.specs.Prelude.{List, [], ◌∷◌, ◌++◌, ℕ, zero, suc, ◌/◌, ◌%◌}

-- the bytes of x, with no leading zero: none for 0. The first argument bounds the steps, and x itself is enough
abbrev pub digits : ℕ → ℕ → List ℕ
digits zero x = []
digits (suc f) zero = []
digits (suc f) (suc x) = digits f (suc x / 256) ++ suc x % 256 ∷ []
