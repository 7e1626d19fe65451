use Rattle.kangarootwelve.proofs.Mac.{tag_row}
use Rattle.kangarootwelve.proofs.hopmac.is_tag.Goals as goal

pub returns : goal.returns
returns c =
    let a = c.args in
    let w = c.tag-written in
    tag_row a.strength.rate a.strength.chaining a.inner a.key.now a.message.now a.customization.now a.presented.now a.expected.now w.new.out c.is_same.result
    c.requires.2 c.requires.3 w.ensures.out_after c.is_same.ensures
