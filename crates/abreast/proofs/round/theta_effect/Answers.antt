-- `abreast::round::theta_effect` meets its contract.
-- Assumes nothing.
use mathlib.Core.Path.{◌≡◌, refl, sym, ap, ap₂, ◌∙◌}
use mathlib.Core.List.{List}
use Prim.Native.Nat.{ℕ, ◌+◌, ◌*◌, ◌/◌, ◌%◌, ◌^◌}
use native.Mathlib.Nat.{zero-add}
use lib.Bits.{bit_or, bit_xor}
use lib.Dec.{lit<}
use Rattle.keccak.specs.Round.{parity, rotl}
use Rattle.keccak.proofs.Words.{rotl_pos}
use Rattle.abreast.specs.declared.round.Plane.{Plane}
use Rattle.abreast.specs.Four.{state_at}
use Rattle.abreast.specs.Planes.{effect}
use Rattle.abreast.proofs.Four.{column, state-parity}
use Rattle.abreast.proofs.round.theta_effect.Goals as goal

-- a word of D from two parities, as the code writes it
abbrev joined : ℕ → ℕ → ℕ
joined c d = bit_xor c (bit_or ((d * 2 ^ 1) % 2 ^ 64) (d / 2 ^ 63))

joined_is : (a : List ℕ) (x y c d : ℕ) → c ≡ parity a x → d ≡ parity a y → joined c d ≡ bit_xor (parity a x) (rotl (parity a y) 1)
joined_is a x y c d ec ed = ap₂ joined ec ed ∙ ap (bit_xor (parity a x)) (sym (rotl_pos (parity a y) 1 (lit< tt)))

-- D from the five parities
abbrev effect_of : ℕ → ℕ → ℕ → ℕ → ℕ → Plane
effect_of c0 c1 c2 c3 c4 = record { 0 = joined c4 c1; 1 = joined c0 c2; 2 = joined c1 c3; 3 = joined c2 c4; 4 = joined c3 c0 }

effect_is : (a : List ℕ) (c0 c1 c2 c3 c4 : ℕ) → c0 ≡ parity a 0 → c1 ≡ parity a 1 → c2 ≡ parity a 2 → c3 ≡ parity a 3 → c4 ≡ parity a 4
    → effect_of c0 c1 c2 c3 c4 ≡ effect a
unfolding effect
effect_is a c0 c1 c2 c3 c4 e0 e1 e2 e3 e4 =
    λ i.
    record {
      0 = joined_is a 4 1 c4 c1 e4 e1 i;
      1 = joined_is a 0 2 c0 c2 e0 e2 i;
      2 = joined_is a 1 3 c1 c3 e1 e3 i;
      3 = joined_is a 2 4 c2 c4 e2 e4 i;
      4 = joined_is a 3 0 c3 c0 e3 e0 i;
    }

effect_words : (j : ℕ) (s : List ℕ)
    → effect_of (column j s 0 j) (column j s 1 (4 + j)) (column j s 2 (8 + j)) (column j s 3 (12 + j)) (column j s 4 (16 + j)) ≡ effect (state_at j s)
effect_words j s =
    effect_is (state_at j s) _ _ _ _ _
    (state-parity j s 0 j (sym (zero-add j))) (state-parity j s 1 (4 + j) refl) (state-parity j s 2 (8 + j) refl)
    (state-parity j s 3 (12 + j) refl) (state-parity j s 4 (16 + j) refl)

pub returns : goal.returns
returns c =
    (λ i.
    record {
      0 = bit_xor (column c.args.j c.args.a.now 4 (16 + c.args.j)) (c.rotate_left.ensures i);
      1 = bit_xor (column c.args.j c.args.a.now 0 c.args.j) (c.rotate_left-2.ensures i);
      2 = bit_xor (column c.args.j c.args.a.now 1 (4 + c.args.j)) (c.rotate_left-3.ensures i);
      3 = bit_xor (column c.args.j c.args.a.now 2 (8 + c.args.j)) (c.rotate_left-4.ensures i);
      4 = bit_xor (column c.args.j c.args.a.now 3 (12 + c.args.j)) (c.rotate_left-5.ensures i);
    })
    ∙ effect_words _ _
