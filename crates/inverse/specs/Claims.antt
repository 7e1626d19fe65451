-- What is claimed of the steps, the round and the rounds, on every state (request Q-13).
-- Assumes nothing.
use Rattle.std.specs.Prelude.{◌≡◌, List, ℕ, ◌^◌, ◌<◌}
use Rattle.keccak.specs.State.{State}
use Rattle.keccak.specs.Round.{theta, rho, pi, chi, iota, round}
use Rattle.keccak.specs.Permutation.{last_rounds}
use Rattle.inverse.specs.Inverse.{untheta, unrho, unpi, unchi, unround, last_unrounds}

-- f and g take states to states and undo each other; so f sends no two states to one
pub record Inverse (f g : List ℕ → List ℕ) : Type 0 where
  pub state : (a : List ℕ) → State a → State (f a)
  pub inverse_state : (a : List ℕ) → State a → State (g a)
  pub undone : (a : List ℕ) → State a → g (f a) ≡ a
  pub done : (a : List ℕ) → State a → f (g a) ≡ a
  pub injective : (a b : List ℕ) → State a → State b → f a ≡ f b → a ≡ b

pub record Claims : Type 0 where
  pub theta-undone : Inverse theta untheta
  pub rho-undone : Inverse rho unrho
  pub pi-undone : Inverse pi unpi
  pub chi-undone : Inverse chi unchi
  pub iota-undone : (rc : ℕ) → rc < 2 ^ 64 → Inverse (iota rc) (iota rc)
  pub round-undone : (rc : ℕ) → rc < 2 ^ 64 → Inverse (round rc) (unround rc)
  -- any number of rounds; above 24 both change nothing
  pub rounds-undone : (n : ℕ) → Inverse (last_rounds n) (last_unrounds n)
