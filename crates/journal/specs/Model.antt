-- What each call on a day does on every input. The machine is KT128's.
-- Assumes nothing.
use Rattle.std.specs.Prelude.{List, ℕ, length}
use Rattle.sponge.specs.Transcript.{Call, Call.squeeze, Reply, lent}
use Rattle.sponge.specs.Runs as runs
use Rattle.sponge.specs.Runs.{fresh_run, perform}
use Rattle.kangarootwelve.specs.Transcript as kangarootwelve
use Rattle.kangarootwelve.specs.Model.{Nodes, machine, seen, held}
use Rattle.journal.specs.Transcript.{framed_call, rules_at}
use Rattle.journal.specs.declared.Journal.{Journal}
use Rattle.journal.specs.declared.Answer.{Answer}

-- the day that a run, as the theorem sees it, is
abbrev pub day_of : runs.Run Nodes → Journal
day_of r = record { run = held r }

unfoldable pub fresh_day : Journal
fresh_day = day_of (fresh_run (kangarootwelve.rules 168 32) (machine 168 32))

-- a call on a day is KT128's on the run below; of an event, one absorb of the event with its length encoding
unfoldable pub performed : Journal → Call (List ℕ) → Reply (runs.Run Nodes)
performed j c = perform (rules_at c) (machine 168 32) (seen j.run) (framed_call c)

-- a call's status, and the day that it hands back
unfoldable pub answer_of : Journal → Call (List ℕ) → Answer
answer_of j c = record { journal = day_of (performed j c).left; status = (performed j c).status }

-- the answer with the bytes given: what a list of calls on days is made of
unfoldable pub reply_of : Journal → Call (List ℕ) → Reply Journal
reply_of j c = record { status = (answer_of j c).status; bytes = (performed j c).bytes; left = (answer_of j c).journal }

-- what the lent output holds after a squeeze, which held `out` before
unfoldable pub output_of : Journal → List ℕ → List ℕ
output_of j out = lent (performed j (squeeze (length out))).status (performed j (squeeze (length out))).bytes out
