use mathlib.Core.Path.{ap, ◌∙◌}
use Rattle.kangarootwelve.specs.declared.Run.{Run}
use Rattle.journal.proofs.Cases.{fresh_day_lem}
use Rattle.journal.proofs.Journal.fresh.Goals as goal

pub returns : goal.returns
returns c = ap (λ (r : Run). record { run = r }) c.fresh.ensures ∙ fresh_day_lem
