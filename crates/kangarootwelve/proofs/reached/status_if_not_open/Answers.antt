use mathlib.Core.Path.{sym, ◌∙◌}
use Rattle.kangarootwelve.proofs.reached.status_if_not_open.Goals as goal

pub returns-then-is_closed : goal.returns-then-is_closed
returns-then-is_closed c = rw (sym c.is_closed.ensures ∙ c.if-is_closed.true)

pub returns : goal.returns
returns c = rw (sym c.is_closed.ensures ∙ c.if-is_closed.false)
