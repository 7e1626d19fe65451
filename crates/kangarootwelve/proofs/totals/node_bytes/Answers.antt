use native.Mathlib.Omega.{arith}
use Rattle.kangarootwelve.proofs.Published.{chunk_is}
use Rattle.kangarootwelve.proofs.Numbers.{values_most}
use Rattle.kangarootwelve.proofs.totals.node_bytes.Goals as goal

pub overflow_mul-result : goal.overflow_mul-result
overflow_mul-result c = omega (arith, values_most c.args.k c.args.strength.chaining c.args.strength.bounds.4 c.requires)

pub overflow_add-result-2 : goal.overflow_add-result-2
overflow_add-result-2 c = omega (arith, values_most c.args.k c.args.strength.chaining c.args.strength.bounds.4 c.requires)

pub returns : goal.returns
returns c = (rw chunk_is, omega (arith, values_most c.args.k c.args.strength.chaining c.args.strength.bounds.4 c.requires))
