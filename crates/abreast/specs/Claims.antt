-- What is claimed of four states abreast (request Q-6): each of them equals the plain engine's state, for any states and any n rounds.
-- Assumes nothing.
use Rattle.std.specs.Prelude.{◌≡◌, ◌≢◌, List, ℕ, ◌<◌, length}
use Rattle.keccak.specs.Permutation.{last_rounds}
use Rattle.abreast.specs.Four.{state_at, permuted_four}

-- `keccak::permute_in_place` leaves `last_rounds n` of its lanes, and `abreast::permute_in_place` leaves `permuted_four n` of its slice
pub record Abreast : Type 0 where
  pub equal : (n : ℕ) (s : List ℕ) → length s ≡ 100 → (k : ℕ) → k < 4 → state_at k (permuted_four n s) ≡ last_rounds n (state_at k s)
  -- a slice is its four states, so nothing else stands in it
  pub words : (n : ℕ) (s : List ℕ) → length (permuted_four n s) ≡ length s
  pub whole : (s t : List ℕ) → length s ≡ 100 → length t ≡ 100 → ((k : ℕ) → k < 4 → state_at k s ≡ state_at k t) → s ≡ t
  -- what is refused is left as it is: a slice of another length, and more than 24 rounds
  pub other_length : (n : ℕ) (s : List ℕ) → length s ≢ 100 → permuted_four n s ≡ s
  pub too_many : (n : ℕ) (s : List ℕ) → 24 < n → permuted_four n s ≡ s
