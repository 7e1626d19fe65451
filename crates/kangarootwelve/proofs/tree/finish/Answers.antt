use mathlib.Core.Path.{ap, ◌∙◌}
use Rattle.sponge.specs.Waiting.{At}
use Rattle.kangarootwelve.specs.Tree.{Tree, absorb_tree, close_tree}
use Rattle.kangarootwelve.specs.Inside.{tree_of}
use Rattle.kangarootwelve.proofs.Encoding.{encoding_slice}
use Rattle.kangarootwelve.proofs.tree.finish.Goals as goal

pub returns : goal.returns
returns c =
    let a = c.args in
    let n = c.length_encode-encoded in
    let t = tree_of a.node.now a.leaf.now a.at in
    c.close.ensures
    ∙ ap (λ (u : At Tree). close_tree a.strength.rate a.strength.chaining u.value)
    (c.absorb-whole.ensures.result_after ∙ ap (absorb_tree a.strength.rate a.strength.chaining t) (encoding_slice a.length n.result n.ensures c.as_slice.result.now c.as_slice.ensures))
