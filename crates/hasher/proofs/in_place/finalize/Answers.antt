use mathlib.Core.Path.{ap, ◌∙◌}
use Rattle.sponge.specs.Transcript.{Call.finalize}
use Rattle.hasher.specs.Model.{function_of, run_with, answered}
use Rattle.hasher.specs.declared.Moved.{Moved}
use Rattle.hasher.proofs.Guards.{answer-refused, answer-taken}
use Rattle.hasher.proofs.in_place.finalize.Goals as goal

pub returns-in-Ok : goal.returns-in-Ok
returns-in-Ok c =
    let a = c.args in
    let e = c.in-Ok.ensures.taken in
    c.finalize.ensures ∙ answer-taken _ a.numbers e.0 e.1 (run_with a.lanes.now a.at) (finalize (record { byte = a.last; status = a.refusal }))

pub returns-in-Err : goal.returns-in-Err
returns-in-Err c =
    let a = c.args in
    let e = c.in-Err.ensures.refused in
    ap (λ (m : Moved). answered m a.lanes.now) c.refused.ensures ∙ answer-refused (function_of a.numbers) (run_with a.lanes.now a.at) (finalize (record { byte = a.last; status = a.refusal })) c.in-Err.of_numbers.status e.1 e.0
