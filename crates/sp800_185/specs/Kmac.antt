-- KMAC and KMACXOF over the rate: a start, and in one go, on every input. The calls after a start are those of Model.antt; KMACXOF's are given without
-- the length.
-- Assumes nothing.
use Rattle.std.specs.Prelude.{List, Bool, true, cond, ℕ, zero, suc, length, leb}
use Rattle.sponge.specs.Status.{done, input_too_long, customization_too_long, first_of}
use Rattle.sponge.specs.Transcript.{Call, lent}
use Rattle.hasher.specs.declared.Run.{Run}
use Rattle.hasher.specs.declared.Answer as declared
use Rattle.sp800_185.specs.Published.{kmac, kmacxof}
use Rattle.sp800_185.specs.Start.{string_limit, key_limit, kmac_prefix, start_run, no_run}
use Rattle.sp800_185.specs.Function.{Function, kmacxof_at, whole_status}
use Rattle.sp800_185.specs.Model.{answer, written}
use Rattle.sp800_185.specs.declared.Keyed.{Keyed}
use Rattle.sp800_185.specs.declared.Answer.{Answer}

-- ---- a start with the key and S

-- the status of a start with a key of k bytes and S of s bytes
unfoldable pub start_status : ℕ → ℕ → ℕ
start_status k s = first_of (cond (leb k key_limit) done input_too_long) (cond (leb s string_limit) done customization_too_long)

-- the run that has absorbed what goes before the message; or the run that every call refuses
abbrev pub started : ℕ → Keyed → Answer
started zero x = record { keyed = x; status = done }
started (suc n) x = record { keyed = record { run = no_run; length = 0 }; status = suc n }

abbrev pub start_of : ℕ → List ℕ → List ℕ → Keyed
start_of rate k s = record { run = start_run rate (kmac_prefix rate k s); length = 0 }

unfoldable pub start_answer : ℕ → List ℕ → List ℕ → Answer
start_answer rate k s = started (start_status (length k) (length s)) (start_of rate k s)

-- ---- the calls after it

-- KMAC, whose close fixes the output length, or KMACXOF, as the code is given them
abbrev pub saying : ℕ → ℕ → Bool → Function ℕ
saying rate most fixes = record { rate = rate; says = true; fixes = fixes; least = 2; most = most; said = λ l. cond fixes l 0 }

-- KMACXOF's runs keep no length

abbrev pub without_length : Answer → declared.Answer
without_length a = record { run = a.keyed.run; status = a.status }

abbrev pub xof_start_answer : ℕ → List ℕ → List ℕ → declared.Answer
xof_start_answer rate k s = without_length (start_answer rate k s)

abbrev pub xof_answer : ℕ → ℕ → Run → Call (Unit {0}) → declared.Answer
xof_answer rate most r c = without_length (answer (kmacxof_at rate most) (record { run = r; length = 0 }) c)

abbrev pub xof_written : ℕ → ℕ → Run → List ℕ → List ℕ
xof_written rate most r out = written (kmacxof_at rate most) (record { run = r; length = 0 }) out

-- ---- in one go: KMAC, whose output length is fixed, or KMACXOF

-- the status of a key of k bytes, S of s bytes, a message of m bytes, and l bytes asked
unfoldable pub one_go_status : ℕ → ℕ → ℕ → ℕ → ℕ
one_go_status k s m l = whole_status (start_status k s) m l

-- what the lent output holds after the call
unfoldable pub one_go_output : ℕ → Bool → List ℕ → List ℕ → List ℕ → List ℕ → List ℕ
one_go_output rate fixes k x s out =
    lent (one_go_status (length k) (length s) (length x) (length out)) (cond fixes (kmac rate k x (length out) s) (kmacxof rate k x (length out) s)) out
