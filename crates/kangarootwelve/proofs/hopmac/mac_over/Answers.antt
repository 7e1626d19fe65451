use Rattle.kangarootwelve.proofs.Mac.{mac_row}
use Rattle.kangarootwelve.proofs.hopmac.mac_over.Goals as goal

pub returns : goal.returns
returns c =
    let a = c.args in
    let inner = c.hash-hashed in
    let outer = c.hash in let all = mac_row a.strength.rate a.strength.chaining a.key.now a.message.now a.customization.now a.digest.now inner.new.out a.out.now outer.new.out outer.result
    c.requires.0 c.requires.1 inner.auto.out c.requires.2 inner.ensures.out_after outer.ensures.value outer.ensures.out_after in record { value = all.0; out_after = all.1 }
