use mathlib.Core.Path.{ap, ◌∙◌}
use lib.ListN.{length}
use Rattle.sponge.specs.Waiting.{At}
use Rattle.kangarootwelve.specs.Tree.{Tree, finish_tree}
use Rattle.kangarootwelve.proofs.tree.finalize.Goals as goal

pub returns : goal.returns
returns c =
    let a = c.args in
    c.finish.ensures ∙ ap (λ (u : At Tree). finish_tree a.strength.rate a.strength.chaining u (length a.customization.now)) c.absorb-named.ensures.result_after
