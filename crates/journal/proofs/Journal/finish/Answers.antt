use mathlib.Core.Path.{ap, ◌∙◌}
use Rattle.sponge.specs.Transcript.{Call.finish}
use Rattle.journal.specs.Inside.{as_day}
use Rattle.journal.proofs.Cases.{call-answer}
use Rattle.journal.proofs.Journal.finish.Goals as goal

pub returns : goal.returns
returns c =
    let a = c.args in
    c.into.ensures ∙ ap as_day c.finish.ensures ∙ call-answer a.self.run finish tt
