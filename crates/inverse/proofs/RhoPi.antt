-- rho and pi, and their inverses, undo each other.
-- Assumes nothing.
use mathlib.Core.Path.{◌≡◌, ap, ap₂, ◌∙◌}
use mathlib.Core.List.{List}
use Prim.Native.Nat.{ℕ, ◌+◌, ◌*◌, ◌/◌, ◌%◌, ◌<◌}
use native.Mathlib.Omega.{arith}
use Rattle.keccak.specs.State.{State, lane, grid}
use Rattle.keccak.specs.Round.{rotl, offsets, rho, pi}
use Rattle.keccak.proofs.Grid.{five_apart, lane_same, lane_reduced, grid-lane, grid_same, grid-state}
use Rattle.keccak.proofs.Offsets.{offset_small}
use Rattle.keccak.proofs.States.{lane-lt}
use Rattle.keccak.proofs.Steps.{rho_is, pi_is}
use Rattle.inverse.specs.Inverse.{rotr, unrho, unpi}
use Rattle.inverse.proofs.Rotations.{rotr-lt, rotr-rotl, rotl-rotr}

offset_lt : (x y : ℕ) → lane offsets x y < 64
offset_lt x y = offset_small (x % 5 + 5 * (y % 5)) (omega arith)

rho_at : (a : List ℕ) (x y : ℕ) → lane (rho a) x y ≡ rotl (lane a x y) (lane offsets x y)
rho_at a x y = ap (λ (b : List ℕ). lane b x y) (rho_is a) ∙ grid-lane _ x y ∙ ap₂ rotl (lane_reduced a x y) (lane_reduced offsets x y)

unrho_at : (a : List ℕ) (x y : ℕ) → lane (unrho a) x y ≡ rotr (lane a x y) (lane offsets x y)
unfolding unrho
unrho_at a x y = grid-lane _ x y ∙ ap₂ rotr (lane_reduced a x y) (lane_reduced offsets x y)

pi_at : (a : List ℕ) (x y : ℕ) → lane (pi a) x y ≡ lane a (x + 3 * y) x
pi_at a x y =
    ap (λ (b : List ℕ). lane b x y) (pi_is a) ∙ grid-lane _ x y
    ∙ lane_same a (x % 5 + 3 * (y % 5)) (x % 5) (x + 3 * y) x (five_apart (x % 5 + 3 * (y % 5)) (x + 3 * y) (x / 5 + 3 * (y / 5)) (omega arith)) (omega arith)

pub unpi-pi : (a : List ℕ) → State a → unpi (pi a) ≡ a
unfolding unpi
unpi-pi a s = grid_same _ a s.lanes (λ x y. pi_at a _ _ ∙ lane_same a _ _ x y (omega arith) (omega arith))

unpi_at : (a : List ℕ) (x y : ℕ) → lane (unpi a) x y ≡ lane a y (2 * x + 3 * y)
unfolding unpi
unpi_at a x y =
    grid-lane _ x y
    ∙ lane_same a (y % 5) (2 * (x % 5) + 3 * (y % 5)) y (2 * x + 3 * y) (omega arith)
    (five_apart (2 * (x % 5) + 3 * (y % 5)) (2 * x + 3 * y) (2 * (x / 5) + 3 * (y / 5)) (omega arith))

-- both at once, as the code has them
pub unrho_unpi-grid : (a : List ℕ) → unrho (unpi a) ≡ grid (λ x y. rotr (lane a y (2 * x + 3 * y)) (lane offsets x y))
unfolding unrho
unrho_unpi-grid a = λ i. grid (λ x y. rotr (unpi_at a x y i) (lane offsets x y))

module _ (a : List ℕ) (s : State a) where
  pub unrho-state : State (unrho a)
  unfolding unrho
  unrho-state = grid-state _ (λ x y. rotr-lt _ _ (lane-lt a s x y))

  pub unpi-state : State (unpi a)
  unfolding unpi
  unpi-state = grid-state _ (λ x y. lane-lt a s y (2 * x + 3 * y))

  pub unrho-rho : unrho (rho a) ≡ a
  unfolding unrho
  unrho-rho =
      grid_same _ a s.lanes
      (λ x y. ap (λ (w : ℕ). rotr w (lane offsets x y)) (rho_at a x y) ∙ rotr-rotl (lane a x y) (lane offsets x y) (lane-lt a s x y) (offset_lt x y))

  pub rho-unrho : rho (unrho a) ≡ a
  rho-unrho =
      rho_is (unrho a)
      ∙ grid_same _ a s.lanes
      (λ x y. ap (λ (w : ℕ). rotl w (lane offsets x y)) (unrho_at a x y) ∙ rotl-rotr (lane a x y) (lane offsets x y) (lane-lt a s x y) (offset_lt x y))

  pub pi-unpi : pi (unpi a) ≡ a
  pi-unpi =
      pi_is (unpi a)
      ∙ grid_same _ a s.lanes
      (λ x y. unpi_at a (x + 3 * y) x ∙ lane_same a x (2 * (x + 3 * y) + 3 * x) x y (omega arith) (omega arith))
