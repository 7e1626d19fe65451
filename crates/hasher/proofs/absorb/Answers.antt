use mathlib.Core.Path.{ap, ◌∙◌}
use Rattle.sponge.specs.Transcript.{Call.absorb}
use Rattle.hasher.specs.Model.{function_of, run_with, answer_of}
use Rattle.hasher.specs.declared.Progress.{Progress}
use Rattle.hasher.proofs.absorb.Goals as goal

-- the call on a copy of the lanes
pub returns : goal.returns
returns c =
    let a = c.args in
    let n = c.absorb-moved in
    c.answer_with.ensures ∙ n.ensures ∙ ap (λ (t : Progress). answer_of (function_of a.numbers) (run_with a.run.lanes t) (absorb a.piece.now)) c.progress_of.ensures
