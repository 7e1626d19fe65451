use Rattle.kangarootwelve.proofs.OneGo.{leaf_row}
use Rattle.kangarootwelve.proofs.one_go.absorb_leaf.Goals as goal

pub returns : goal.returns
returns c =
    let o = c.absorb-absorbed in
    let h = c.hash_at_rate-hashed in
    leaf_row c.args.strength.rate c.args.strength.bounds.0 c.args.strength.bounds.1 (record { value = c.args.node.now; position = c.args.position }) c.args.leaf.now h.new.out c.args.value.now
    (record { status = o.result.status; state = record { value = o.new.lanes; position = o.result.position } }) c.requires.0 c.requires.1 c.requires.2 c.requires.3 h.ensures.out_after o.ensures
