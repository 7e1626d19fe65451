use mathlib.Core.Path.{ap, ◌∙◌}
use Rattle.sponge.specs.Transcript.{Call.customize}
use Rattle.journal.specs.Inside.{as_day}
use Rattle.journal.proofs.Cases.{call-answer}
use Rattle.journal.proofs.Journal.customize.Goals as goal

pub returns : goal.returns
returns c =
    let a = c.args in
    c.into.ensures ∙ ap as_day c.customize.ensures ∙ call-answer a.self.run (customize a.piece.now) tt
