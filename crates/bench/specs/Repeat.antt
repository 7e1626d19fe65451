-- The permutation, done over and over, of one state and of four abreast.
-- Assumes nothing.
use Rattle.std.specs.Prelude.{List, ℕ, zero, suc}
use Rattle.keccak.specs.Permutation.{permuted}
use Rattle.abreast.specs.Four.{permuted_four}

-- n permutations of a
unfoldable pub repeated : ℕ → List ℕ → List ℕ
repeated zero a = a
repeated (suc n) a = permuted (repeated n a)

-- n permutations of the four states in s, by TurboSHAKE's twelve rounds; a slice of another length is left as it is
unfoldable pub repeated_four : ℕ → List ℕ → List ℕ
repeated_four zero s = s
repeated_four (suc n) s = permuted_four 12 (repeated_four n s)
