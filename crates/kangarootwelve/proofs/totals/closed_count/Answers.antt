use native.Mathlib.Numerals.{add-one}
use native.Mathlib.Nat.{div-le_self}
use native.Mathlib.Omega.{arith}
use Rattle.kangarootwelve.proofs.totals.closed_count.Goals as goal

pub overflow_add-result : goal.overflow_add-result
overflow_add-result c = omega (arith, div-le_self c.args.m c.args.strength.rate)

pub overflow_add-result-2 : goal.overflow_add-result-2
overflow_add-result-2 c = omega (arith, div-le_self c.args.m c.args.strength.rate)

pub returns : goal.returns
returns c = (simp (add-one, c.open_count.ensures.0), omega (arith, div-le_self c.args.m c.args.strength.rate, c.open_count.ensures.1))
