use mathlib.Core.Path.{ap, ◌∙◌}
use Prim.Native.Nat.{ℕ, ◌+◌}
use native.Mathlib.Omega.{arith}
use Rattle.sponge.specs.Count.{closed_count}
use Rattle.kangarootwelve.proofs.Numbers.{closed_first, closed_later}
use Rattle.kangarootwelve.proofs.totals.closed_tree.Goals as goal

pub closed_count-requires : goal.closed_count-requires
closed_count-requires c = (omega (arith, c.requires.1), omega (arith, c.requires.2))

pub returns-then-q-eq0 : goal.returns-then-q-eq0
returns-then-q-eq0 c = let a = c.args in closed_first a.strength.rate a.strength.chaining a.q a.o a.j c.closed_count.result c.if-q-eq0.true c.closed_count.ensures.0

pub overflow_add-node : goal.overflow_add-node
overflow_add-node c = omega (arith, c.node_bytes.ensures.1, c.encoded_bytes.ensures.1)

pub overflow_add-node-2 : goal.overflow_add-node-2
overflow_add-node-2 c = omega (arith, c.node_bytes.ensures.1, c.encoded_bytes.ensures.1)

pub closed_count-requires-2 : goal.closed_count-requires-2
closed_count-requires-2 c = (omega (arith, c.node_bytes.ensures.1, c.encoded_bytes.ensures.1), omega (arith, c.requires.2))

pub leaves_count-requires : goal.leaves_count-requires
leaves_count-requires c = omega (arith, c.requires.0)

pub overflow_add-result : goal.overflow_add-result
overflow_add-result c = omega (arith, c.requires.2, c.node_bytes.ensures.1, c.encoded_bytes.ensures.1, c.closed_count-2.ensures.1, c.leaves_count.ensures.1)

pub closed_count-requires-3 : goal.closed_count-requires-3
closed_count-requires-3 c = (omega (arith, c.requires.1), omega (arith, c.args.strength.bounds.4))

pub overflow_add-result-2 : goal.overflow_add-result-2
overflow_add-result-2 c =
    omega (arith, c.args.strength.bounds.4, c.requires.1, c.requires.2, c.node_bytes.ensures.1, c.encoded_bytes.ensures.1, c.closed_count-2.ensures.1, c.leaves_count.ensures.1, c.closed_count-3.ensures.1)

pub returns : goal.returns
returns c =
    let a = c.args in
    closed_later a.strength.rate a.strength.chaining a.q a.o a.j c.encoded_bytes.result c.closed_count-2.result c.leaves_count.result c.closed_count-3.result
    c.if-q-eq0.false c.encoded_bytes.ensures.0
    (c.closed_count-2.ensures.0 ∙ ap (λ (n : ℕ). closed_count a.strength.rate (n + c.encoded_bytes.result + 2) a.j) c.node_bytes.ensures.0)
    c.leaves_count.ensures.0 c.closed_count-3.ensures.0
