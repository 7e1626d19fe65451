use Prim.Native.Nat.{◌-◌}
use lib.ListN.{take, replicate}
use Rattle.kangarootwelve.specs.Published.{trailer}
use Rattle.kangarootwelve.proofs.Nodes.{value-length, single_row, final_row, closed}
use Rattle.kangarootwelve.proofs.Encoding.{encoding_slice}
use Rattle.kangarootwelve.proofs.tree.close.Goals as goal

pub returns-then-at-eq0 : goal.returns-then-at-eq0
returns-then-at-eq0 c =
    let h = c.requires in
    let pads = c.pad-single in
    let row = single_row c.args.strength.rate c.args.strength.bounds.0 c.args.strength.bounds.1 c.args.strength.chaining (record { value = c.args.node.now; position = c.args.at.node }) (record { value = c.args.leaf.now; position = c.args.at.leaf }) c.args.at.index
    (record { status = pads.result.status; state = record { value = pads.new.lanes; position = pads.result.position } }) c.if-at-eq0.true h.final-fits pads.ensures in
    closed c.args.strength.rate c.args.strength.bounds.0 c.args.strength.bounds.1 c.args.strength.chaining (record { value = pads.new.lanes; position = pads.result.position }) (record { value = c.args.node.now; position = c.args.at.node }) (record { value = c.args.leaf.now; position = c.args.at.leaf }) c.args.at.index row

pub returns : goal.returns
unfolding trailer
returns c =
    let h = c.requires in
    let v = c.absorb_value-valued in
    let n = c.length_encode-encoded in
    let o = c.absorb-counted in
    let p = c.absorb-ended in
    let q = c.pad-padded in
    let row = final_row c.args.strength.rate c.args.strength.bounds.0 c.args.strength.bounds.1 c.args.strength.chaining (record { value = c.args.node.now; position = c.args.at.node }) (record { value = c.args.leaf.now; position = c.args.at.leaf }) (record { value = v.new.node; position = v.result })
    c.args.at.index (take (c.args.strength.chaining - 0) (replicate 64 0)) c.as_slice.result.now
    (record { status = o.result.status; state = record { value = o.new.lanes; position = o.result.position } }) (record { status = p.result.status; state = record { value = p.new.lanes; position = p.result.position } }) (record { status = q.result.status; state = record { value = q.new.lanes; position = q.result.position } })
    c.if-at-eq0.false h.final-fits (value-length c.args.strength.chaining c.args.strength.bounds.4) v.ensures (encoding_slice c.args.at.index n.result n.ensures c.as_slice.result.now c.as_slice.ensures) o.ensures p.ensures q.ensures in
    closed c.args.strength.rate c.args.strength.bounds.0 c.args.strength.bounds.1 c.args.strength.chaining (record { value = q.new.lanes; position = q.result.position }) (record { value = c.args.node.now; position = c.args.at.node }) (record { value = c.args.leaf.now; position = c.args.at.leaf }) c.args.at.index row
