-- The calls of cSHAKE by the bit that says SHAKE: what SHAKE's calls and those of cSHAKE with some string answer.
-- Assumes nothing.
use mathlib.Core.Path.{◌≡◌, sym, ap, ◌∙◌}
use mathlib.Core.List.{List}
use mathlib.Core.Bool.{Bool, true, false, cond}
use Prim.Native.Nat.{ℕ}
use Rattle.sponge.specs.Transcript.{Call}
use Rattle.hasher.specs.Model as hasher
use Rattle.hasher.specs.declared.Answer as declared
use Rattle.sp800_185.specs.Function.{cshake_at}
use Rattle.sp800_185.specs.Model as model
use Rattle.sp800_185.specs.Cshake.{Customized, shake_at, of_shake, of_keyed, answer, written}
use Rattle.sp800_185.specs.declared.Answer.{Answer}

module _ (rate most : ℕ) (x : Customized) where
  pub shake-answer : (c : Call (Unit {0})) (a : declared.Answer) → x.shake ≡ true → a ≡ hasher.answer (shake_at rate) x.run c → of_shake a ≡ answer rate most x c
  unfolding answer
  shake-answer c a e f = ap of_shake f ∙ sym (ap (λ (b : Bool). cond b (of_shake (hasher.answer (shake_at rate) x.run c)) (of_keyed (model.answer (cshake_at rate most) (record { run = x.run; length = 0 }) c))) e)

  pub keyed_answer : (c : Call (Unit {0})) (a : Answer) → x.shake ≡ false → a ≡ model.answer (cshake_at rate most) (record { run = x.run; length = 0 }) c → of_keyed a ≡ answer rate most x c
  unfolding answer
  keyed_answer c a e f = ap of_keyed f ∙ sym (ap (λ (b : Bool). cond b (of_shake (hasher.answer (shake_at rate) x.run c)) (of_keyed (model.answer (cshake_at rate most) (record { run = x.run; length = 0 }) c))) e)

  pub shake-written : (out o : List ℕ) → x.shake ≡ true → o ≡ hasher.written (shake_at rate) x.run out → o ≡ written rate most x out
  unfolding written
  shake-written out o e f = rw e f

  pub keyed_written : (out o : List ℕ) → x.shake ≡ false → o ≡ model.written (cshake_at rate most) (record { run = x.run; length = 0 }) out → o ≡ written rate most x out
  unfolding written
  keyed_written out o e f = rw e f
