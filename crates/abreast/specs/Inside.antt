-- What the contracts of private functions say of a slice of four states, before and after.
-- Assumes nothing.
use Rattle.std.specs.Prelude.{◌≡◌, ◌≢◌, List, ℕ, ◌<◌, length}
use Rattle.abreast.specs.Four.{state_at}

-- from s to t state j goes through f, and the other three stay
pub record One (j : ℕ) (f : List ℕ → List ℕ) (s t : List ℕ) : Type 0 where
  pub words : length t ≡ 100
  pub own : state_at j t ≡ f (state_at j s)
  pub other : (k : ℕ) → k < 4 → k ≢ j → state_at k t ≡ state_at k s

-- from s to t each of the four states goes through its f
pub record Each (f : ℕ → List ℕ → List ℕ) (s t : List ℕ) : Type 0 where
  pub words : length t ≡ 100
  pub each : (k : ℕ) → k < 4 → state_at k t ≡ f k (state_at k s)
