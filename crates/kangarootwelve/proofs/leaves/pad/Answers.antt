use Rattle.kangarootwelve.specs.Published.{intermediate_domain}
use Rattle.kangarootwelve.proofs.Abreast.{twelve_each, sponges_pad}
use Rattle.kangarootwelve.proofs.leaves.pad.Goals as goal

pub returns : goal.returns
returns c =
    let a = c.args in
    sponges_pad a.strength.rate a.position c.next_position-at.result intermediate_domain a.states.now _ _ _ _ c.next_position-at.ensures.upper_bound c.next_position-at.ensures.sponges
    c.xor_bytes.ensures c.xor_bytes-2.ensures (twelve_each _ _ c.xor_bytes-2.ensures.words c.permute_in_place-padded.ensures.states_after)
