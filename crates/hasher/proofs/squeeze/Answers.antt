use mathlib.Core.Path.{ap, ◌∙◌}
use lib.ListN.{length}
use Rattle.sponge.specs.Transcript.{Call.squeeze}
use Rattle.hasher.specs.Model.{function_of, run_with, answer_of, output_of}
use Rattle.hasher.specs.declared.Progress.{Progress}
use Rattle.hasher.proofs.squeeze.Goals as goal

-- the call on a copy of the lanes
pub returns : goal.returns
returns c =
    let a = c.args in
    let n = c.squeeze-moved in record {
      value = c.answer_with.ensures ∙ n.ensures.lanes_after ∙ ap (λ (t : Progress). answer_of (function_of a.numbers) (run_with a.run.lanes t) (squeeze (length a.out.now))) c.progress_of.ensures;
      out_after = n.ensures.out_after ∙ ap (λ (t : Progress). output_of (function_of a.numbers) (run_with a.run.lanes t) a.out.now) c.progress_of.ensures;
    }
