use borrow.Author.Tests.{eq-eqb, ne_eqb}
use Rattle.kangarootwelve.proofs.calls.position_in_hand.Goals as goal

pub returns-then-at-eq0 : goal.returns-then-at-eq0
returns-then-at-eq0 c = rw (eq-eqb c.args.at.index 0 c.if-at-eq0.true)

pub returns : goal.returns
returns c = rw (ne_eqb c.args.at.index 0 c.if-at-eq0.false)
