-- The calls of the function of SP 800-185 that is chosen: those of its type. The close of cSHAKE and of KMACXOF has no argument: the output length given
-- is not looked at.
-- Assumes nothing.
use Rattle.std.specs.Prelude.{List, true, false, ℕ}
use Rattle.sponge.specs.Transcript.{Call}
use Rattle.hasher.specs.Model.{map_call}
use Rattle.hasher.specs.declared.Answer.{Answer}
use Rattle.sp800_185.specs.Function.{kmac_at}
use Rattle.sp800_185.specs.Model as model
use Rattle.sp800_185.specs.Cshake as cshake
use Rattle.sp800_185.specs.Kmac as kmac
use Rattle.functions.specs.declared.keyed.KeyedFunction.{KeyedFunction}
use Rattle.functions.specs.declared.keyed.KeyedFunction.TheVariants.{CShake128, CShake256, Kmac128, Kmac256, KmacXof128, KmacXof256}
use Rattle.functions.specs.declared.keyed.KeyedRun.{KeyedRun}
use Rattle.functions.specs.declared.keyed.KeyedAnswer.{KeyedAnswer}

-- what a call of KMACXOF answers
abbrev pub of_kmacxof : Answer → KeyedAnswer
of_kmacxof a = record { keyed = record { run = a.run; shake = false; output_length = 0 }; status = a.status }

-- a start with the name or the key, and S
module _ (rate : ℕ) where
  abbrev pub cshake_start : List ℕ → List ℕ → KeyedAnswer
  cshake_start n s =
      let a = cshake.start_answer rate n s in
      record { keyed = record { run = a.customized.run; shake = a.customized.shake; output_length = 0 }; status = a.status }

  abbrev pub kmac_start : List ℕ → List ℕ → KeyedAnswer
  kmac_start k s =
      let a = kmac.start_answer rate k s in
      record { keyed = record { run = a.keyed.run; shake = false; output_length = a.keyed.length }; status = a.status }

  abbrev pub kmacxof_start : List ℕ → List ℕ → KeyedAnswer
  kmacxof_start k s = of_kmacxof (kmac.xof_start_answer rate k s)

abbrev pub start_in : KeyedFunction → List ℕ → List ℕ → KeyedAnswer
start_in CShake128 n s = cshake_start 168 n s
start_in CShake256 n s = cshake_start 136 n s
start_in Kmac128 k s = kmac_start 168 k s
start_in Kmac256 k s = kmac_start 136 k s
start_in KmacXof128 k s = kmacxof_start 168 k s
start_in KmacXof256 k s = kmacxof_start 136 k s

-- a call on a run, by the rate and the most blocks before a message
module _ (rate most : ℕ) where
  abbrev pub cshake_answer : KeyedRun → Call ℕ → KeyedAnswer
  cshake_answer x c =
      let a = cshake.answer rate most (record { run = x.run; shake = x.shake }) (map_call (λ l. tt) c) in
      record { keyed = record { run = a.customized.run; shake = a.customized.shake; output_length = 0 }; status = a.status }

  abbrev pub kmac_answer : KeyedRun → Call ℕ → KeyedAnswer
  kmac_answer x c =
      let a = model.answer (kmac_at rate most) (record { run = x.run; length = x.output_length }) c in
      record { keyed = record { run = a.keyed.run; shake = false; output_length = a.keyed.length }; status = a.status }

  abbrev pub kmacxof_answer : KeyedRun → Call ℕ → KeyedAnswer
  kmacxof_answer x c = of_kmacxof (kmac.xof_answer rate most x.run (map_call (λ l. tt) c))

abbrev pub answer_in : KeyedFunction → KeyedRun → Call ℕ → KeyedAnswer
answer_in CShake128 x c = cshake_answer 168 199729 x c
answer_in CShake256 x c = cshake_answer 136 246724 x c
answer_in Kmac128 x c = kmac_answer 168 102360992 x c
answer_in Kmac256 x c = kmac_answer 136 126445930 x c
answer_in KmacXof128 x c = kmacxof_answer 168 102360992 x c
answer_in KmacXof256 x c = kmacxof_answer 136 126445930 x c

-- what the lent output holds after a squeeze
abbrev pub written_in : KeyedFunction → KeyedRun → List ℕ → List ℕ
written_in CShake128 x out = cshake.written 168 199729 (record { run = x.run; shake = x.shake }) out
written_in CShake256 x out = cshake.written 136 246724 (record { run = x.run; shake = x.shake }) out
written_in Kmac128 x out = model.written (kmac_at 168 102360992) (record { run = x.run; length = x.output_length }) out
written_in Kmac256 x out = model.written (kmac_at 136 126445930) (record { run = x.run; length = x.output_length }) out
written_in KmacXof128 x out = kmac.xof_written 168 102360992 x.run out
written_in KmacXof256 x out = kmac.xof_written 136 126445930 x.run out

-- in one go: the status by the lengths of the name or the key, of S, of the message and of the output, and the lent output after the call
abbrev pub status_in : KeyedFunction → ℕ → ℕ → ℕ → ℕ → ℕ
status_in CShake128 n s m l = cshake.one_go_status n s m l
status_in CShake256 n s m l = cshake.one_go_status n s m l
status_in Kmac128 k s m l = kmac.one_go_status k s m l
status_in Kmac256 k s m l = kmac.one_go_status k s m l
status_in KmacXof128 k s m l = kmac.one_go_status k s m l
status_in KmacXof256 k s m l = kmac.one_go_status k s m l

abbrev pub output_in : KeyedFunction → List ℕ → List ℕ → List ℕ → List ℕ → List ℕ
output_in CShake128 n x s out = cshake.one_go_output 168 x n s out
output_in CShake256 n x s out = cshake.one_go_output 136 x n s out
output_in Kmac128 k x s out = kmac.one_go_output 168 true k x s out
output_in Kmac256 k x s out = kmac.one_go_output 136 true k x s out
output_in KmacXof128 k x s out = kmac.one_go_output 168 false k x s out
output_in KmacXof256 k x s out = kmac.one_go_output 136 false k x s out
