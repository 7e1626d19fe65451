use Prim.Native.Nat.{zero-le}
use native.Mathlib.Omega.{arith}
use borrow.Author.Tests.{eq-eqb, ne_eqb}
use Rattle.hasher.proofs.calls.most_squeezed.Goals as goal

pub returns-then-at-eq-ABSORBING : goal.returns-then-at-eq-ABSORBING
returns-then-at-eq-ABSORBING c = (simp (eq-eqb _ _ c.if-at-eq-ABSORBING.true), zero-le)

pub returns : goal.returns
returns c = (simp (ne_eqb _ _ c.if-at-eq-ABSORBING.false), omega arith)
