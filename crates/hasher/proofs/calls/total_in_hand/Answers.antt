use native.Mathlib.Omega.{arith}
use borrow.Author.Tests.{eq-eqb, ne_eqb}
use Rattle.hasher.proofs.calls.total_in_hand.Goals as goal

pub returns-then-at-eq-ABSORBING : goal.returns-then-at-eq-ABSORBING
returns-then-at-eq-ABSORBING c = (simp (eq-eqb _ _ c.if-at-eq-ABSORBING.true), omega arith)

pub returns : goal.returns
returns c = (simp (ne_eqb _ _ c.if-at-eq-ABSORBING.false), omega arith)
