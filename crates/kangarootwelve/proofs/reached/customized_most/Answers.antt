use borrow.Author.Tests.{eq-eqb, ne_eqb}
use Rattle.kangarootwelve.proofs.reached.customized_most.Goals as goal

pub returns-then-phase-eq-ABSORBING : goal.returns-then-phase-eq-ABSORBING
returns-then-phase-eq-ABSORBING c = rw (eq-eqb _ _ c.if-phase-eq-ABSORBING.true)

pub returns : goal.returns
returns c = rw (ne_eqb _ _ c.if-phase-eq-ABSORBING.false)
