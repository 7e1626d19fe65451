use Prim.Native.Nat.{zero-le}
use native.Mathlib.Nat.{div-le_self}
use native.Mathlib.Numerals.{add-one}
use native.Mathlib.Omega.{arith}
use borrow.Author.Tests.{eq-eqb, ne_eqb}
use Rattle.hasher.proofs.calls.Taken.count_at_close.Goals as goal

pub returns-then-at-eq-ABSORBING : goal.returns-then-at-eq-ABSORBING
returns-then-at-eq-ABSORBING c = (simp (eq-eqb _ _ c.if-at-eq-ABSORBING.true), zero-le)

pub overflow_add-result : goal.overflow_add-result
overflow_add-result c = let a = c.args in omega (arith, div-le_self a.at.absorbed a.self.rate)

pub returns : goal.returns
returns c =
    let a = c.args in
    (simp (ne_eqb _ _ c.if-at-eq-ABSORBING.false, add-one), omega (arith, div-le_self a.at.absorbed a.self.rate))
