-- Calls in a row on cSHAKE's own runs, by the bit: SHAKE's, or those of runs without a length.
-- Assumes nothing.
use mathlib.Core.Path.{◌≡◌, sym, ap, ◌∙◌}
use mathlib.Core.List.{List, [], ◌++◌}
use mathlib.Core.Bool.{Bool, true, false}
use Prim.Native.Nat.{ℕ}
use lib.ListN.{length}
use Rattle.sponge.specs.Transcript.{Call, Call.absorb, Call.squeeze}
use Rattle.hasher.specs.Model as hasher
use Rattle.hasher.specs.Claims as unnamed
use Rattle.hasher.specs.declared.Run.{Run}
use Rattle.hasher.specs.declared.Answer as declared
use Rattle.sp800_185.specs.Function.{cshake_at}
use Rattle.sp800_185.specs.Model as model
use Rattle.sp800_185.specs.Cshake as customizable
use Rattle.sp800_185.specs.Cshake.{shake_at}
use Rattle.sp800_185.specs.Claims.{Joins}
use Rattle.sp800_185.specs.Cshake.{Customized}

-- ---- SHAKE's, with the status and the run apart

module _ (rate : ℕ) (J : unnamed.Joins (shake_at rate)) where
  abbrev of : Run → Call (Unit {0}) → declared.Answer
  of r c = hasher.answer (shake_at rate) r c

  pub shake-joins : Joins (λ r c. (of r c).status) (λ r c. (of r c).run) (hasher.written (shake_at rate))
  shake-joins = record {
    absorb-absorb = λ r a b e f.
        let w = J.absorb-absorb r a b e f in
        (sym (ap (λ (x : declared.Answer). x.status) w) ∙ f, ap (λ (x : declared.Answer). x.run) w);
    absorb_parts = λ r a b e.
        let w = J.absorb_parts r a b e in
        (ap (λ (x : declared.Answer). x.status) w ∙ e, ap (λ (x : declared.Answer). x.run) w);
    absorb-nothing = J.absorb-nothing;
    squeeze-squeeze = λ r y z e f.
        let w = J.squeeze-squeeze r y z e f in
        (sym (ap (λ (x : declared.Answer). x.status) w.0) ∙ f, ap (λ (x : declared.Answer). x.run) w.0, w.1);
    squeeze_parts = λ r y z e.
        let w = J.squeeze_parts r y z e in
        (ap (λ (x : declared.Answer). x.status) w.0 ∙ e, ap (λ (x : declared.Answer). x.run) w.0, w.1);
    squeeze-nothing = J.squeeze-nothing;
  }

-- ---- by the bit

module _ (rate most : ℕ) where
  abbrev status_of : Customized → Call (Unit {0}) → ℕ
  status_of x c = (customizable.answer rate most x c).status

  abbrev left_of : Customized → Call (Unit {0}) → Customized
  left_of x c = (customizable.answer rate most x c).customized

  abbrev written_of : Customized → List ℕ → List ℕ
  written_of = customizable.written rate most

  -- runs with one bit
  abbrev bit : Bool → Run → Customized
  bit b r = record { run = r; shake = b }

  module _ (shake : Joins (λ r c. (hasher.answer (shake_at rate) r c).status) (λ r c. (hasher.answer (shake_at rate) r c).run) (hasher.written (shake_at rate)))
      (named : Joins (λ (r : Run) (c : Call (Unit {0})). (model.answer (cshake_at rate most) (record { run = r; length = 0 }) c).status) (λ r c. (model.answer (cshake_at rate most) (record { run = r; length = 0 }) c).keyed.run) (λ r out. model.written (cshake_at rate most) (record { run = r; length = 0 }) out)) where
    absorb-absorb : (r : Run) (t : Bool) (a b : List ℕ) → status_of (bit t r) (absorb a) ≡ 0 → status_of (left_of (bit t r) (absorb a)) (absorb b) ≡ 0
        → (status_of (bit t r) (absorb (a ++ b)) ≡ 0) × (left_of (left_of (bit t r) (absorb a)) (absorb b) ≡ left_of (bit t r) (absorb (a ++ b)))
    unfolding customizable.answer
    absorb-absorb r true a b e f = let w = shake.absorb-absorb r a b e f in (w.0, ap (bit true) w.1)
    absorb-absorb r false a b e f = let w = named.absorb-absorb r a b e f in (w.0, ap (bit false) w.1)

    absorb_parts : (r : Run) (t : Bool) (a b : List ℕ) → status_of (bit t r) (absorb (a ++ b)) ≡ 0
        → (status_of (left_of (bit t r) (absorb a)) (absorb b) ≡ 0) × (left_of (left_of (bit t r) (absorb a)) (absorb b) ≡ left_of (bit t r) (absorb (a ++ b)))
    unfolding customizable.answer
    absorb_parts r true a b e = let w = shake.absorb_parts r a b e in (w.0, ap (bit true) w.1)
    absorb_parts r false a b e = let w = named.absorb_parts r a b e in (w.0, ap (bit false) w.1)

    absorb-nothing : (r : Run) (t : Bool) → status_of (bit t r) (absorb []) ≡ 0 → left_of (bit t r) (absorb []) ≡ bit t r
    unfolding customizable.answer
    absorb-nothing r true e = ap (bit true) (shake.absorb-nothing r e)
    absorb-nothing r false e = ap (bit false) (named.absorb-nothing r e)

    squeeze-squeeze : (r : Run) (t : Bool) (y z : List ℕ) → status_of (bit t r) (squeeze (length y)) ≡ 0 → status_of (left_of (bit t r) (squeeze (length y))) (squeeze (length z)) ≡ 0
        → (status_of (bit t r) (squeeze (length (y ++ z))) ≡ 0) × (left_of (left_of (bit t r) (squeeze (length y))) (squeeze (length z)) ≡ left_of (bit t r) (squeeze (length (y ++ z))))
        × (written_of (bit t r) y ++ written_of (left_of (bit t r) (squeeze (length y))) z ≡ written_of (bit t r) (y ++ z))
    unfolding customizable.answer customizable.written
    squeeze-squeeze r true y z e f = let w = shake.squeeze-squeeze r y z e f in (w.0, ap (bit true) w.1, w.2)
    squeeze-squeeze r false y z e f = let w = named.squeeze-squeeze r y z e f in (w.0, ap (bit false) w.1, w.2)

    squeeze_parts : (r : Run) (t : Bool) (y z : List ℕ) → status_of (bit t r) (squeeze (length (y ++ z))) ≡ 0
        → (status_of (left_of (bit t r) (squeeze (length y))) (squeeze (length z)) ≡ 0) × (left_of (left_of (bit t r) (squeeze (length y))) (squeeze (length z)) ≡ left_of (bit t r) (squeeze (length (y ++ z))))
        × (written_of (bit t r) y ++ written_of (left_of (bit t r) (squeeze (length y))) z ≡ written_of (bit t r) (y ++ z))
    unfolding customizable.answer customizable.written
    squeeze_parts r true y z e = let w = shake.squeeze_parts r y z e in (w.0, ap (bit true) w.1, w.2)
    squeeze_parts r false y z e = let w = named.squeeze_parts r y z e in (w.0, ap (bit false) w.1, w.2)

    squeeze-nothing : (r : Run) (t : Bool) → status_of (bit t r) (squeeze 0) ≡ 0 → left_of (bit t r) (squeeze 0) ≡ bit t r
    unfolding customizable.answer
    squeeze-nothing r true e = ap (bit true) (shake.squeeze-nothing r e)
    squeeze-nothing r false e = ap (bit false) (named.squeeze-nothing r e)

    pub cshake-joins : Joins status_of left_of written_of
    cshake-joins = record {
      absorb-absorb = λ x. absorb-absorb x.run x.shake;
      absorb_parts = λ x. absorb_parts x.run x.shake;
      absorb-nothing = λ x. absorb-nothing x.run x.shake;
      squeeze-squeeze = λ x. squeeze-squeeze x.run x.shake;
      squeeze_parts = λ x. squeeze_parts x.run x.shake;
      squeeze-nothing = λ x. squeeze-nothing x.run x.shake;
    }
