-- A word of 64 bits written into a string as eight bytes, the least significant first: what the code writes at once.
-- Assumes nothing.
use Rattle.std.specs.Prelude.{List, ℕ, ◌+◌, ◌/◌, ◌%◌, ◌^◌, set}

-- s with the eight bytes of w from index i on
unfoldable pub with_word : List ℕ → ℕ → ℕ → List ℕ
with_word s i w =
    set (set (set (set (set (set (set (set s i (w % 256)) (i + 1) (w / 2 ^ 8 % 256)) (i + 2) (w / 2 ^ 16 % 256)) (i + 3) (w / 2 ^ 24 % 256))
    (i + 4) (w / 2 ^ 32 % 256)) (i + 5) (w / 2 ^ 40 % 256)) (i + 6) (w / 2 ^ 48 % 256)) (i + 7) (w / 2 ^ 56 % 256)
