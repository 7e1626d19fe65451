-- What the steps, the round and the rounds are, as laws: a crate above goes by these, and unfolds none of them.
-- Assumes nothing.
use mathlib.Core.Path.{◌≡◌, refl}
use mathlib.Core.List.{List, [], ◌∷◌}
use Prim.Native.Nat.{ℕ, ◌+◌, ◌-◌, ◌*◌, ◌%◌, ◌^◌}
use lib.Bits.{bit_xor, bit_and}
use lib.ListN.{get_or, set}
use Rattle.keccak.specs.State.{lane, grid}
use Rattle.keccak.specs.Round.{rotl, complement, parity, theta, offsets, rho, pi, chi, iota, round}
use Rattle.keccak.specs.Permutation.{rounds}

pub rotl-zero : (x : ℕ) → rotl x 0 ≡ x
unfolding rotl
rotl-zero x = refl

pub complement_is : (x : ℕ) → complement x ≡ (2 ^ 64 - 1) - x
unfolding complement
complement_is x = refl

module _ (a : List ℕ) where
  pub parity_is : (x : ℕ) → parity a x ≡ bit_xor (bit_xor (bit_xor (bit_xor (lane a x 0) (lane a x 1)) (lane a x 2)) (lane a x 3)) (lane a x 4)
  unfolding parity
  parity_is x = refl

  -- the number of a column counts modulo 5
  pub parity_same : (x u : ℕ) → x % 5 ≡ u % 5 → parity a x ≡ parity a u
  unfolding parity
  parity_same x u e = rw e

  pub theta_is : theta a ≡ grid (λ x y. bit_xor (lane a x y) (bit_xor (parity a (x + 4)) (rotl (parity a (x + 1)) 1)))
  unfolding theta
  theta_is = refl

  pub rho_is : rho a ≡ grid (λ x y. rotl (lane a x y) (lane offsets x y))
  unfolding rho
  rho_is = refl

  pub pi_is : pi a ≡ grid (λ x y. lane a (x + 3 * y) x)
  unfolding pi
  pi_is = refl

  pub chi_is : chi a ≡ grid (λ x y. bit_xor (lane a x y) (bit_and (complement (lane a (x + 1) y)) (lane a (x + 2) y)))
  unfolding chi
  chi_is = refl

  pub iota_is : (rc : ℕ) → iota rc a ≡ set a 0 (bit_xor (get_or a 0 0) rc)
  unfolding iota
  iota_is rc = refl

  pub round_is : (rc : ℕ) → round rc a ≡ iota rc (chi (pi (rho (theta a))))
  unfolding round
  round_is rc = refl

  pub rounds-none : rounds [] a ≡ a
  unfolding rounds
  rounds-none = refl

  pub rounds_more : (rc : ℕ) (rcs : List ℕ) → rounds (rc ∷ rcs) a ≡ rounds rcs (round rc a)
  unfolding rounds
  rounds_more rc rcs = refl
