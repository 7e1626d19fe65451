use mathlib.Core.Path.{◌∙◌}
use lib.ListN.{length}
use Rattle.bench.proofs.Statuses.{read_of_pieces, output_of_pieces, refused}
use Rattle.bench.proofs.pieces.hash_pieces.Goals as goal

pub returns-in-Ok-clause-value : goal.returns-in-Ok-clause-value
returns-in-Ok-clause-value g c =
    let a = c.args in
    let t = c.in-Ok.ensures.taken in
    c.read.ensures.value a.message.now t.2 t.1 ∙ read_of_pieces g.R.TimedRun.timed a.step a.message.now a.out.now t.0 t.1 (length a.out.now)

pub returns-in-Ok-clause-out_after : goal.returns-in-Ok-clause-out_after
returns-in-Ok-clause-out_after g c =
    let a = c.args in
    let t = c.in-Ok.ensures.taken in
    c.read.ensures.out_after a.message.now t.2 t.1 ∙ output_of_pieces g.R.TimedRun.timed a.step a.message.now a.out.now t.0 t.1

pub returns-in-Err-clause-value : goal.returns-in-Err-clause-value
returns-in-Err-clause-value g c = let a = c.args in (refused g.R.TimedRun.timed a.step a.message.now a.out.now c.in-Err.refusal.status c.in-Err.ensures.refused).0

pub returns-in-Err-clause-out_after : goal.returns-in-Err-clause-out_after
returns-in-Err-clause-out_after g c = let a = c.args in (refused g.R.TimedRun.timed a.step a.message.now a.out.now c.in-Err.refusal.status c.in-Err.ensures.refused).1
