-- Over any permutation that has an inverse, and any rate: a piece absorbed at one position into two states keeps them apart.
-- Assumes nothing.
use mathlib.Core.Path.{◌≡◌, refl, sym, ap, ◌∙◌, subst}
use mathlib.Core.Bool.{Bool, true, false, cond}
use mathlib.Core.List.{List, [], ◌∷◌}
use Prim.Native.Nat.{ℕ, suc, ◌<◌}
use lib.Dec.{eqb}
use Rattle.keccak.specs.State.{State}
use Rattle.inverse.specs.Claims.{Inverse}
use Rattle.sponge.specs.Callable.{Bytes}
use Rattle.sponge.specs.Published.{xor_byte}
use Rattle.sponge.specs.Waiting.{step}
use Rattle.sponge.specs.Model.{Sponge, absorb_bytes}
use Rattle.sponge.proofs.Xor.{xor_byte-injective, xor_byte-state}

module _ (P Q : List ℕ → List ℕ) (I : Inverse P Q) (rate : ℕ) where
  abbrev at : List ℕ → ℕ → Sponge
  at a i = record { value = a; position = i }

  -- the lanes and the position that a byte goes to, by whether the block is full: the position tells it
  opened : Bool → List ℕ → List ℕ
  opened full a = cond full (P a) a

  place : Bool → ℕ → ℕ
  place full i = cond full 0 i

  opened-state : (full : Bool) (a : List ℕ) → State a → State (opened full a)
  unfolding opened
  opened-state true a s = I.state a s
  opened-state false a s = s

  opened-injective : (full : Bool) (a c : List ℕ) → State a → State c → opened full a ≡ opened full c → a ≡ c
  unfolding opened
  opened-injective true a c s t e = I.injective a c s t e
  opened-injective false a c s t e = e

  ready_is : (full : Bool) (a : List ℕ) (i : ℕ) → cond full (at (P a) 0) (at a i) ≡ at (opened full a) (place full i)
  unfolding opened place
  ready_is true a i = refl
  ready_is false a i = refl

  -- the lanes after a byte
  after : List ℕ → ℕ → ℕ → List ℕ
  after a i b = xor_byte (opened (eqb i rate) a) (place (eqb i rate) i) b

  step_is : (a : List ℕ) (i b : ℕ) → step P xor_byte rate (at a i) b ≡ at (after a i b) (suc (place (eqb i rate) i))
  unfolding after
  step_is a i b = ap (λ (s : Sponge). at (xor_byte s.value s.position b) (suc s.position)) (ready_is (eqb i rate) a i)

  after-state : (a : List ℕ) (i b : ℕ) → b < 256 → State a → State (after a i b)
  unfolding after
  after-state a i b h s = xor_byte-state _ (place (eqb i rate) i) b h (opened-state (eqb i rate) a s)

  after-injective : (a c : List ℕ) (i b : ℕ) → State a → State c → after a i b ≡ after c i b → a ≡ c
  unfolding after
  after-injective a c i b s t e = opened-injective (eqb i rate) a c s t (xor_byte-injective _ _ (place (eqb i rate) i) b e)

  -- a state stays a state
  pub absorb-state : (p : List ℕ) → Bytes p → (a : List ℕ) (i : ℕ) → State a → State (absorb_bytes P rate (at a i) p).value
  absorb-state [] h a i s = s
  absorb-state (b ∷ p) h a i s =
      subst (λ (q : Sponge). State (absorb_bytes P rate q p).value) (sym (step_is a i b))
      (absorb-state p h.1 (after a i b) (suc (place (eqb i rate) i)) (after-state a i b h.0 s))

  -- the same piece at the same position: what ends with the same lanes began with the same lanes
  pub absorb-injective : (p : List ℕ) → Bytes p → (a c : List ℕ) (i : ℕ) → State a → State c
      → (absorb_bytes P rate (at a i) p).value ≡ (absorb_bytes P rate (at c i) p).value → a ≡ c
  absorb-injective [] h a c i s t e = e
  absorb-injective (b ∷ p) h a c i s t e =
      let ends : (absorb_bytes P rate (at (after a i b) (suc (place (eqb i rate) i))) p).value ≡ (absorb_bytes P rate (at (after c i b) (suc (place (eqb i rate) i))) p).value =
      sym (ap (λ (q : Sponge). (absorb_bytes P rate q p).value) (step_is a i b)) ∙ e ∙ ap (λ (q : Sponge). (absorb_bytes P rate q p).value) (step_is c i b) in
      after-injective a c i b s t
      (absorb-injective p h.1 (after a i b) (after c i b) (suc (place (eqb i rate) i)) (after-state a i b h.0 s) (after-state c i b h.0 t) ends)
