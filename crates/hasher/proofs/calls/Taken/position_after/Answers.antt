use Rattle.hasher.proofs.Cases.{position-suc}
use Prim.Native.Nat.{◌-◌}
use native.Mathlib.Nat.{mod-lt}
use native.Mathlib.Omega.{arith}
use Rattle.hasher.proofs.calls.Taken.position_after.Goals as goal

pub overflow_add-result : goal.overflow_add-result
overflow_add-result c = omega (arith, mod-lt (c.args.n - 1) c.args.self.taken.0)

pub returns : goal.returns
returns c = position-suc c.args.self.rate c.args.n c.if-n-eq0.false
