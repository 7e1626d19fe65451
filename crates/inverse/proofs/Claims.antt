-- What specs/Claims.antt claims.
-- Assumes nothing.
use mathlib.Core.Path.{◌≡◌, sym, ap, ◌∙◌}
use mathlib.Core.List.{List}
use Prim.Native.Nat.{ℕ}
use Rattle.keccak.specs.State.{State}
use Rattle.keccak.proofs.States.{theta-state, rho-state, pi-state, chi-state, iota-state, round-state, last_rounds-state}
use Rattle.inverse.specs.Claims.{Inverse, Claims}
use Rattle.inverse.proofs.Theta.{untheta-state, untheta-theta, theta-untheta}
use Rattle.inverse.proofs.RhoPi.{unrho-state, unrho-rho, rho-unrho, unpi-state, unpi-pi, pi-unpi}
use Rattle.inverse.proofs.Chi.{unchi-state, unchi-chi, chi-unchi}
use Rattle.inverse.proofs.Rounds.{iota-iota, unround-state, unround-round, round-unround, last_unrounds-state, last_undone, last_done}

module _ (f g : List ℕ → List ℕ) (fs : (a : List ℕ) → State a → State (f a)) (gs : (a : List ℕ) → State a → State (g a))
    (undone : (a : List ℕ) → State a → g (f a) ≡ a) (done : (a : List ℕ) → State a → f (g a) ≡ a) where
  -- what is undone sends no two states to one
  inverse : Inverse f g
  inverse = record { state = fs; inverse_state = gs; undone = undone; done = done; injective = λ a b s t e. sym (undone a s) ∙ ap g e ∙ undone b t }

pub claims : Claims
claims = record {
  theta-undone = inverse _ _ theta-state untheta-state untheta-theta theta-untheta;
  rho-undone = inverse _ _ rho-state unrho-state unrho-rho rho-unrho;
  pi-undone = inverse _ _ pi-state unpi-state unpi-pi pi-unpi;
  chi-undone = inverse _ _ chi-state unchi-state unchi-chi chi-unchi;
  iota-undone = λ rc h. inverse _ _ (λ a s. iota-state a s rc h) (λ a s. iota-state a s rc h) (iota-iota rc) (iota-iota rc);
  round-undone = λ rc h. inverse _ _ (λ a s. round-state rc a h s) (unround-state rc h) (unround-round rc h) (round-unround rc h);
  rounds-undone = λ n. inverse _ _ (last_rounds-state n) (last_unrounds-state n) (last_undone n) (last_done n);
}
