use mathlib.Core.Path.{ap, ◌∙◌}
use Prim.Native.Nat.{◌-◌}
use lib.ListN.{take, replicate}
use Rattle.kangarootwelve.specs.Published.{marker}
use Rattle.kangarootwelve.specs.Tree.{Tree}
use Rattle.kangarootwelve.specs.Inside.{tree_of}
use Rattle.kangarootwelve.specs.declared.Place.{Place}
use Rattle.kangarootwelve.proofs.Nodes.{value-length, marked_row, valued_row}
use Rattle.kangarootwelve.proofs.tree.end_chunk.Goals as goal

pub returns-then-at-eq0 : goal.returns-then-at-eq0
unfolding marker
returns-then-at-eq0 c =
    let o = c.absorb-marked in
    let h = c.requires.0 in
    ap (λ (p : Place). tree_of o.new.lanes (replicate 25 0) p) c.opened.ensures
    ∙ ap (λ (t : Tree). record { value = t; position = 0 })
    (marked_row c.args.strength.rate c.args.strength.bounds.0 c.args.strength.bounds.1 c.args.strength.chaining (record { value = c.args.node.now; position = c.args.at.node }) (record { value = c.args.leaf.now; position = c.args.at.leaf })
    c.args.at.index (record { status = o.result.status; state = record { value = o.new.lanes; position = o.result.position } }) c.if-at-eq0.true h.final-fits o.ensures)

pub returns : goal.returns
returns c =
    let o = c.absorb_value-valued in
    ap (λ (p : Place). tree_of o.new.node (replicate 25 0) p) c.opened-2.ensures
    ∙ ap (λ (t : Tree). record { value = t; position = 0 })
    (valued_row c.args.strength.rate c.args.strength.bounds.0 c.args.strength.bounds.1 c.args.strength.chaining (record { value = c.args.node.now; position = c.args.at.node }) (record { value = c.args.leaf.now; position = c.args.at.leaf })
    (record { value = o.new.node; position = o.result }) c.args.at.index (take (c.args.strength.chaining - 0) (replicate 64 0)) c.if-at-eq0.false (value-length c.args.strength.chaining c.args.strength.bounds.4) o.ensures)
