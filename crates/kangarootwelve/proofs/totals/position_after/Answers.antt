use Prim.Native.Nat.{◌-◌}
use native.Mathlib.Nat.{mod-lt}
use native.Mathlib.Omega.{arith}
use Rattle.kangarootwelve.proofs.Cases.{position-suc}
use Rattle.kangarootwelve.proofs.totals.position_after.Goals as goal

pub overflow_add-result : goal.overflow_add-result
overflow_add-result c = omega (arith, mod-lt (c.args.n - 1) c.requires)

pub returns : goal.returns
returns c = position-suc c.args.r c.args.n c.if-n-eq0.false
