use Rattle.kangarootwelve.specs.Published.{intermediate_domain}
use Rattle.kangarootwelve.proofs.Nodes.{value_row}
use Rattle.kangarootwelve.proofs.tree.absorb_value.Goals as goal

pub returns : goal.returns
returns c =
    let pads = c.pad-padded in
    let squeezes = c.squeeze-squeezed in
    value_row c.args.strength.rate c.args.strength.bounds.0 c.args.strength.bounds.1 (record { value = c.args.leaf.now; position = c.args.reached }) (record { value = c.args.node.now; position = c.args.position })
    intermediate_domain c.args.value.now squeezes.new.out
    (record { status = pads.result.status; state = record { value = pads.new.lanes; position = pads.result.position } })
    (record { status = c.absorb-absorbed.result.status; state = record { value = c.absorb-absorbed.new.lanes; position = c.absorb-absorbed.result.position } })
    c.requires.1 c.requires.0 pads.ensures squeezes.ensures.out_after c.absorb-absorbed.ensures
