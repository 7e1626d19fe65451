-- theta and its inverse undo each other.
-- Assumes nothing.
use mathlib.Core.Path.{◌≡◌, refl, sym, ap, ap₂, ◌∙◌}
use mathlib.Core.List.{List}
use Prim.Native.Nat.{ℕ, ◌+◌, ◌%◌, ◌^◌, ◌<◌}
use native.Mathlib.Omega.{arith}
use lib.Bits.{bit_xor, xor_lt}
use lib.ListN.{length}
use Rattle.keccak.specs.State.{State, lane, grid}
use Rattle.keccak.specs.Round.{rotl, parity, theta}
use Rattle.keccak.proofs.Words.{rotl-lt}
use Rattle.keccak.proofs.Xor.{xor_again}
use Rattle.keccak.proofs.Grid.{from-length, lane_reduced, grid-lane, grid_same, grid-state}
use Rattle.keccak.proofs.States.{lane-lt, parity-lt}
use Rattle.keccak.proofs.Steps.{parity_is, parity_same, theta_is}
use Rattle.inverse.specs.Inverse.{column, parities, effect, theta_parities, untheta_parities, untheta}
use Rattle.inverse.proofs.Reordered.{xor_fivefold}
use Rattle.inverse.proofs.Parities.{Row, column_same, row_at, rows_same, theta_parities-length, theta_parities_at, untheta_parities_row, untheta_parities-length, untheta_parities-theta_parities, theta_parities-untheta_parities}

-- a state with the effect of the parities p XORed into its columns: theta is that, and so is its inverse
abbrev theta_with : List ℕ → List ℕ → List ℕ
theta_with a p = grid (λ x y. bit_xor (lane a x y) (effect p x))

effect-mod : (p : List ℕ) (x : ℕ) → effect p (x % 5) ≡ effect p x
effect-mod p x =
    ap₂ (λ (u v : ℕ). bit_xor u (rotl v 1))
    (column_same p (x % 5 + 4) (x + 4) (omega arith)) (column_same p (x % 5 + 1) (x + 1) (omega arith))

effect-lt : (p : List ℕ) → Row p → (x : ℕ) → effect p x < 2 ^ 64
effect-lt p r x = xor_lt 64 _ _ (r (x + 4)) (rotl-lt _ 1 (r (x + 1)))

theta_with_at : (a p : List ℕ) (x y : ℕ) → lane (theta_with a p) x y ≡ bit_xor (lane a x y) (effect p x)
theta_with_at a p x y =
    grid-lane (λ x y. bit_xor (lane a x y) (effect p x)) x y
    ∙ ap₂ bit_xor (lane_reduced a x y) (effect-mod p x)

theta_with-state : (a p : List ℕ) → State a → Row p → State (theta_with a p)
theta_with-state a p s r = grid-state _ (λ x y. xor_lt 64 _ _ (lane-lt a s x y) (effect-lt p r x))

theta_with_twice : (a p : List ℕ) → length a ≡ 25 → theta_with (theta_with a p) p ≡ a
theta_with_twice a p e =
    grid_same _ a e (λ x y. ap (λ (w : ℕ). bit_xor w (effect p x)) (theta_with_at a p x y) ∙ xor_again (lane a x y) (effect p x))

-- ---- parities

parities-length : (a : List ℕ) → length (parities a) ≡ 5
unfolding parities
parities-length a = from-length (parity a) 0 5

parity_at : (a : List ℕ) (x : ℕ) → column (parities a) x ≡ parity a x
unfolding parities
parity_at a x = let e : x % 5 % 5 ≡ x % 5 = omega arith in row_at (parity a) x ∙ parity_same a (x % 5) x e

parities_row : (a : List ℕ) → State a → Row (parities a)
parities_row a s x = rw (parity_at a x) (parity-lt a s x)

parity-theta_with : (a p : List ℕ) (x : ℕ) → parity (theta_with a p) x ≡ bit_xor (parity a x) (effect p x)
parity-theta_with a p x =
    parity_is (theta_with a p) x
    ∙ ap₂ bit_xor (ap₂ bit_xor (ap₂ bit_xor (ap₂ bit_xor (theta_with_at a p x 0) (theta_with_at a p x 1)) (theta_with_at a p x 2)) (theta_with_at a p x 3)) (theta_with_at a p x 4)
    ∙ xor_fivefold (lane a x 0) (lane a x 1) (lane a x 2) (lane a x 3) (lane a x 4) (effect p x)
    ∙ ap (λ (w : ℕ). bit_xor w (effect p x)) (sym (parity_is a x))

parities-theta_with : (a p : List ℕ) (x : ℕ) → column (parities (theta_with a p)) x ≡ bit_xor (column (parities a) x) (effect p x)
parities-theta_with a p x =
    parity_at (theta_with a p) x ∙ parity-theta_with a p x ∙ ap (λ (w : ℕ). bit_xor w (effect p x)) (sym (parity_at a x))

-- ---- theta

theta-theta_with : (a : List ℕ) → theta a ≡ theta_with a (parities a)
theta-theta_with a =
    theta_is a
    ∙ λ i. grid (λ x y. bit_xor (lane a x y) (bit_xor (sym (parity_at a (x + 4)) i) (rotl (sym (parity_at a (x + 1)) i) 1)))

untheta-theta_with : (a : List ℕ) → untheta a ≡ theta_with a (untheta_parities (parities a))
unfolding untheta
untheta-theta_with a = refl

module _ (a : List ℕ) (s : State a) where
  pub untheta-state : State (untheta a)
  untheta-state = rw (untheta-theta_with a) (theta_with-state a (untheta_parities (parities a)) s (untheta_parities_row (parities a) (parities_row a s)))

  parities-theta : parities (theta a) ≡ theta_parities 1 (parities a)
  parities-theta =
      rows_same _ _ (parities-length (theta a)) (theta_parities-length 1 (parities a))
      (λ x. ap (λ (b : List ℕ). column (parities b) x) (theta-theta_with a) ∙ parities-theta_with a (parities a) x ∙ sym (theta_parities_at 1 (parities a) x))

  pub untheta-theta : untheta (theta a) ≡ a
  untheta-theta =
      let c : List ℕ = parities a in
      let e : untheta_parities (parities (theta a)) ≡ c = ap untheta_parities parities-theta ∙ untheta_parities-theta_parities c (parities_row a s) (parities-length a) in
      untheta-theta_with (theta a) ∙ ap₂ theta_with (theta-theta_with a) e ∙ theta_with_twice a c s.lanes

  parities-untheta : parities (untheta a) ≡ untheta_parities (parities a)
  parities-untheta =
      let q : List ℕ = untheta_parities (parities a) in
      rows_same _ _ (parities-length (untheta a)) (untheta_parities-length (parities a))
      (λ x.
      ap (λ (b : List ℕ). column (parities b) x) (untheta-theta_with a) ∙ parities-theta_with a q x
      ∙ ap (λ (c : List ℕ). bit_xor (column c x) (effect q x)) (sym (theta_parities-untheta_parities (parities a) (parities_row a s) (parities-length a)))
      ∙ ap (λ (w : ℕ). bit_xor w (effect q x)) (theta_parities_at 1 q x)
      ∙ xor_again (column q x) (effect q x))

  pub theta-untheta : theta (untheta a) ≡ a
  theta-untheta =
      theta-theta_with (untheta a) ∙ ap₂ theta_with (untheta-theta_with a) parities-untheta ∙ theta_with_twice a (untheta_parities (parities a)) s.lanes
