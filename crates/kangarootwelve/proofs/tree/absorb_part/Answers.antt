use mathlib.Core.Path.{ap}
use Prim.Native.Nat.{◌+◌}
use native.Mathlib.Omega.{arith}
use lib.ListN.{length}
use Rattle.kangarootwelve.specs.Tree.{Tree}
use Rattle.kangarootwelve.proofs.Published.{chunk_is}
use Rattle.kangarootwelve.proofs.Nodes.{first_row, later_row}
use Rattle.kangarootwelve.proofs.tree.absorb_part.Goals as goal

pub overflow_add-next : goal.overflow_add-next
overflow_add-next c = let h = c.requires in omega (arith, chunk_is)

pub returns-then-at-eq0 : goal.returns-then-at-eq0
returns-then-at-eq0 c =
    let h = c.requires.0 in
    ap (λ (t : Tree). record { value = t; position = c.args.at.position + length c.args.part.now })
    (first_row c.args.strength.rate c.args.strength.bounds.0 c.args.strength.bounds.1 (record { value = c.args.node.now; position = c.args.at.node }) (record { value = c.args.leaf.now; position = c.args.at.leaf })
    c.args.at.index c.args.part.now (record { status = c.absorb-absorbed.result.status; state = record { value = c.absorb-absorbed.new.lanes; position = c.absorb-absorbed.result.position } })
    c.if-at-eq0.true h.final-fits c.absorb-absorbed.ensures)

pub returns : goal.returns
returns c =
    let h = c.requires.0 in
    ap (λ (t : Tree). record { value = t; position = c.args.at.position + length c.args.part.now })
    (later_row c.args.strength.rate c.args.strength.bounds.0 c.args.strength.bounds.1 (record { value = c.args.node.now; position = c.args.at.node }) (record { value = c.args.leaf.now; position = c.args.at.leaf })
    c.args.at.index c.args.part.now (record { status = c.absorb-absorbed-2.result.status; state = record { value = c.absorb-absorbed-2.new.lanes; position = c.absorb-absorbed-2.result.position } })
    c.if-at-eq0.false h.leaf-fits c.absorb-absorbed-2.ensures)
