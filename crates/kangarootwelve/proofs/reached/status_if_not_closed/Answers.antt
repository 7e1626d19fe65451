use mathlib.Core.Path.{sym, ◌∙◌}
use Rattle.kangarootwelve.proofs.reached.status_if_not_closed.Goals as goal

pub returns-then-is_open : goal.returns-then-is_open
returns-then-is_open c = rw (sym c.is_open.ensures ∙ c.if-is_open.true)

pub returns : goal.returns
returns c = rw (sym c.is_open.ensures ∙ c.if-is_open.false)
