-- cSHAKE over the rate and the most blocks before a message: a start, the calls after it, and in one go, on every input.
-- Assumes nothing.
use Rattle.std.specs.Prelude.{List, Bool, true, false, cond, ℕ, zero, suc, length, leb}
use Rattle.sponge.specs.Status.{done, customization_too_long, first_of}
use Rattle.sponge.specs.Transcript.{Call, Reply, lent}
use Rattle.hasher.specs.Function.{Function, long_output}
use Rattle.hasher.specs.Model as hasher
use Rattle.hasher.specs.declared.Answer as declared
use Rattle.hasher.specs.declared.Run.{Run}
use Rattle.fips202.specs.Transcript.{function}
use Rattle.sp800_185.specs.Published.{both_empty, cshake_prefix, shake_byte, cshake}
use Rattle.sp800_185.specs.Start.{string_limit, start_run, no_run}
use Rattle.sp800_185.specs.Function.{cshake_at, whole_status}
use Rattle.sp800_185.specs.Model as model
use Rattle.sp800_185.specs.declared.Answer.{Answer}

-- a run of cSHAKE, and whether it is one of SHAKE: both strings of its start were empty
pub record Customized : Type 0 where
  pub run : Run
  pub shake : Bool

-- what a call answers: the status, and the run, which is the one given where the status is not 0
pub record CustomizedAnswer : Type 0 where
  pub customized : Customized
  pub status : ℕ

-- ---- a start with N and S

-- the status of a start with strings of n and s bytes
unfoldable pub start_status : ℕ → ℕ → ℕ
start_status n s = first_of (cond (leb n string_limit) done customization_too_long) (cond (leb s string_limit) done customization_too_long)

-- the run that has absorbed what goes before the message, and the bit that says SHAKE; or the run that every call refuses
abbrev pub started : ℕ → Customized → CustomizedAnswer
started zero x = record { customized = x; status = done }
started (suc n) x = record { customized = record { run = no_run; shake = false }; status = suc n }

abbrev pub start_of : ℕ → List ℕ → List ℕ → Customized
start_of rate n s = record { run = start_run rate (cshake_prefix rate n s); shake = both_empty n s }

unfoldable pub start_answer : ℕ → List ℕ → List ℕ → CustomizedAnswer
start_answer rate n s = started (start_status (length n) (length s)) (start_of rate n s)

-- ---- the calls after it, by the bit: SHAKE's, or cSHAKE's

abbrev pub shake_at : ℕ → Function (Unit {0})
shake_at rate = function rate shake_byte long_output

abbrev pub of_shake : declared.Answer → CustomizedAnswer
of_shake a = record { customized = record { run = a.run; shake = true }; status = a.status }

abbrev pub of_keyed : Answer → CustomizedAnswer
of_keyed a = record { customized = record { run = a.keyed.run; shake = false }; status = a.status }

module _ (rate most : ℕ) where
  unfoldable pub answer : Customized → Call (Unit {0}) → CustomizedAnswer
  answer x c = cond x.shake (of_shake (hasher.answer (shake_at rate) x.run c)) (of_keyed (model.answer (cshake_at rate most) (record { run = x.run; length = 0 }) c))

  -- what the lent output holds after a squeeze, which held `out` before
  unfoldable pub written : Customized → List ℕ → List ℕ
  written x out = cond x.shake (hasher.written (shake_at rate) x.run out) (model.written (cshake_at rate most) (record { run = x.run; length = 0 }) out)

  -- the answer with the bytes given: what a list of calls on the code's runs is made of
  unfoldable pub reply_of : Customized → Call (Unit {0}) → Reply Customized
  reply_of x c = record {
    status = (answer x c).status;
    bytes = cond x.shake (hasher.reply_of (shake_at rate) x.run c).bytes (model.run_reply (cshake_at rate most) x.run c).bytes;
    left = (answer x c).customized;
  }

-- ---- in one go

-- the status of strings of n and s bytes, a message of m bytes, and l bytes asked
unfoldable pub one_go_status : ℕ → ℕ → ℕ → ℕ → ℕ
one_go_status n s m l = whole_status (start_status n s) m l

-- what the lent output holds after the call
unfoldable pub one_go_output : ℕ → List ℕ → List ℕ → List ℕ → List ℕ → List ℕ
one_go_output rate x n s out = lent (one_go_status (length n) (length s) (length x) (length out)) (cshake rate x (length out) n s) out
