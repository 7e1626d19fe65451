use native.Mathlib.Omega.{arith}
use Rattle.kangarootwelve.proofs.Nodes.{position-le}
use Rattle.kangarootwelve.proofs.Numbers.{index-fits}
use Rattle.kangarootwelve.proofs.Tests.{open_is}
use Rattle.kangarootwelve.proofs.totals.open_kt.Goals as goal

pub tree_count-requires : goal.tree_count-requires
tree_count-requires c = (index-fits c.args.n c.index_after.result c.index_after.ensures (omega (arith, c.requires)), rw c.position_after.ensures (position-le 8192 (omega arith) c.args.n))

pub returns : goal.returns
returns c =
    let a = c.args in
    open_is a.strength.rate a.strength.chaining a.n c.index_after.result c.position_after.result c.tree_count.result
    c.index_after.ensures c.position_after.ensures c.tree_count.ensures
