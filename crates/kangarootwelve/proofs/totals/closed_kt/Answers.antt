use Prim.Native.Nat.{◌+◌}
use native.Mathlib.Omega.{arith}
use Rattle.kangarootwelve.proofs.Nodes.{position-le}
use Rattle.kangarootwelve.proofs.Numbers.{index-fits, closed_is}
use Rattle.kangarootwelve.proofs.totals.closed_kt.Goals as goal

pub overflow_add-whole : goal.overflow_add-whole
overflow_add-whole c = omega (arith, c.requires.0, c.encoded_bytes.ensures.1)

pub closed_tree-requires : goal.closed_tree-requires
closed_tree-requires c =
    let e = c.encoded_bytes in (index-fits (c.args.n + e.result) c.index_after.result c.index_after.ensures (omega (arith, c.requires.0, e.ensures.1)), rw c.position_after.ensures (position-le 8192 (omega arith) (c.args.n + e.result)), c.requires.2)

pub returns : goal.returns
returns c =
    let a = c.args in
    closed_is a.strength.rate a.strength.chaining a.n a.customized a.j c.encoded_bytes.result c.index_after.result c.position_after.result c.closed_tree.result
    c.encoded_bytes.ensures.0 c.index_after.ensures c.position_after.ensures c.closed_tree.ensures
