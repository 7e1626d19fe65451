use mathlib.Core.Path.{ap, ◌∙◌}
use lib.ListN.{length}
use Rattle.sponge.specs.Transcript.{Call.squeeze}
use Rattle.hasher.specs.Model.{function_of, run_with, answered}
use Rattle.hasher.specs.declared.Moved.{Moved}
use Rattle.hasher.proofs.Guards.{answer-refused, output-refused, answer-taken, output-taken}
use Rattle.hasher.proofs.in_place.squeeze.Goals as goal

pub returns-in-Ok : goal.returns-in-Ok
returns-in-Ok c =
    let a = c.args in
    let e = c.in-Ok.ensures.taken in record {
      lanes_after = c.squeeze.ensures.lanes_after ∙ answer-taken _ a.numbers e.0 e.1 (run_with a.lanes.now a.at) (squeeze (length a.out.now));
      out_after = c.squeeze.ensures.out_after ∙ output-taken _ a.numbers e.0 e.1 (run_with a.lanes.now a.at) a.out.now;
    }

pub returns-in-Err : goal.returns-in-Err
returns-in-Err c =
    let a = c.args in
    let e = c.in-Err.ensures.refused in record {
      lanes_after = ap (λ (m : Moved). answered m a.lanes.now) c.refused.ensures ∙ answer-refused (function_of a.numbers) (run_with a.lanes.now a.at) (squeeze (length a.out.now)) c.in-Err.refusal.status e.1 e.0;
      out_after = output-refused (function_of a.numbers) (run_with a.lanes.now a.at) a.out.now c.in-Err.refusal.status e.1 e.0;
    }
