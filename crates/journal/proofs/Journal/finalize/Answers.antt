use mathlib.Core.Path.{ap, ◌∙◌}
use Rattle.sponge.specs.Transcript.{Call.finalize}
use Rattle.journal.specs.Inside.{as_day}
use Rattle.journal.proofs.Cases.{call-answer}
use Rattle.journal.proofs.Journal.finalize.Goals as goal

pub returns : goal.returns
returns c =
    let a = c.args in
    c.into.ensures ∙ ap as_day c.finalize.ensures ∙ call-answer a.self.run (finalize a.name.now) tt
