-- What the code computes of five lanes or words, from what each of them is.
-- Assumes nothing.
use mathlib.Core.Path.{◌≡◌, sym, ap₂, ◌∙◌}
use mathlib.Core.List.{List, [], ◌∷◌}
use Prim.Native.Nat.{ℕ, ◌-◌, ◌^◌}
use lib.Bits.{bit_xor, bit_and}
use Rattle.keccak.specs.State.{lane, from}
use Rattle.keccak.specs.Round.{parity}
use Rattle.keccak.proofs.Grid.{from-five}
use Rattle.keccak.proofs.Steps.{complement_is, parity_is}
use Rattle.inverse.specs.Inverse.{unchi_lane}

module _ {v0 v1 v2 v3 v4 : ℕ} where
  pub parity_of : (a : List ℕ) (x : ℕ) → v0 ≡ lane a x 0 → v1 ≡ lane a x 1 → v2 ≡ lane a x 2 → v3 ≡ lane a x 3 → v4 ≡ lane a x 4
      → bit_xor (bit_xor (bit_xor (bit_xor v0 v1) v2) v3) v4 ≡ parity a x
  parity_of a x e0 e1 e2 e3 e4 = (λ i. bit_xor (bit_xor (bit_xor (bit_xor (e0 i) (e1 i)) (e2 i)) (e3 i)) (e4 i)) ∙ sym (parity_is a x)

  pub row_of : (f : ℕ → ℕ) → v0 ≡ f 0 → v1 ≡ f 1 → v2 ≡ f 2 → v3 ≡ f 3 → v4 ≡ f 4 → v0 ∷ v1 ∷ v2 ∷ v3 ∷ v4 ∷ [] ≡ from 0 5 f
  row_of f e0 e1 e2 e3 e4 = (λ i. e0 i ∷ e1 i ∷ e2 i ∷ e3 i ∷ e4 i ∷ []) ∙ sym (from-five f)

  pub unchi_lane_of : {b0 b1 b2 b3 b4 : ℕ} → v0 ≡ b0 → v1 ≡ b1 → v2 ≡ b2 → v3 ≡ b3 → v4 ≡ b4
      → bit_xor v0 (bit_and ((2 ^ 64 - 1) - v1) (bit_xor v2 (bit_and ((2 ^ 64 - 1) - v3) v4))) ≡ unchi_lane b0 b1 b2 b3 b4
  unfolding unchi_lane
  unchi_lane_of e0 e1 e2 e3 e4 =
      ap₂ (λ (u v : ℕ). bit_xor v0 (bit_and u (bit_xor v2 (bit_and v v4)))) (sym (complement_is v1)) (sym (complement_is v3)) ∙ λ i. unchi_lane (e0 i) (e1 i) (e2 i) (e3 i) (e4 i)
