use native.Mathlib.Omega.{arith}
use Rattle.kangarootwelve.proofs.Numbers.{leaves_fit}
use Rattle.kangarootwelve.proofs.Published.{chunk_is}
use Rattle.kangarootwelve.proofs.totals.leaves_count.Goals as goal

pub overflow_mul-result : goal.overflow_mul-result
overflow_mul-result c = let l = leaves_fit c.args.k c.closed_count.result c.args.strength.chaining c.closed_count.ensures.1 c.args.strength.bounds.4 c.requires in omega (arith, l)

pub returns : goal.returns
returns c =
    (rw (c.closed_count.ensures.0, chunk_is), leaves_fit c.args.k c.closed_count.result c.args.strength.chaining c.closed_count.ensures.1 c.args.strength.bounds.4 c.requires)
