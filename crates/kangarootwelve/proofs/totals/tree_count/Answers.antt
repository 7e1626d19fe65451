use mathlib.Core.Path.{ap, ◌∙◌}
use native.Mathlib.Omega.{arith}
use Rattle.sponge.specs.Count.{open_count}
use Rattle.kangarootwelve.proofs.Numbers.{tree_first, tree-later}
use Rattle.kangarootwelve.proofs.totals.tree_count.Goals as goal

pub returns-then-q-eq0 : goal.returns-then-q-eq0
returns-then-q-eq0 c = let a = c.args in tree_first a.strength.rate a.strength.chaining a.q a.o c.open_count.result c.if-q-eq0.true c.open_count.ensures.0

pub node_bytes-requires : goal.node_bytes-requires
node_bytes-requires c = omega (arith, c.requires.0)

pub leaves_count-requires : goal.leaves_count-requires
leaves_count-requires c = omega (arith, c.requires.0)

pub overflow_add-result : goal.overflow_add-result
overflow_add-result c = omega (arith, c.node_bytes.ensures.1, c.open_count-2.ensures.1, c.leaves_count.ensures.1)

pub overflow_add-result-2 : goal.overflow_add-result-2
overflow_add-result-2 c = omega (arith, c.requires.1, c.node_bytes.ensures.1, c.open_count-2.ensures.1, c.leaves_count.ensures.1, c.open_count-3.ensures.1)

pub returns : goal.returns
returns c =
    let a = c.args in
    tree-later a.strength.rate a.strength.chaining a.q a.o c.open_count-2.result c.leaves_count.result c.open_count-3.result
    c.if-q-eq0.false (c.open_count-2.ensures.0 ∙ ap (open_count a.strength.rate) c.node_bytes.ensures.0) c.leaves_count.ensures.0 c.open_count-3.ensures.0
