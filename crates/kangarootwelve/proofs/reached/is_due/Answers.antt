use mathlib.Core.Path.{◌≡◌, sym, ap, ◌∙◌}
use Prim.Native.Nat.{ℕ, ◌+◌}
use native.Mathlib.Omega.{arith}
use Rattle.sponge.specs.Waiting.{position_after}
use Rattle.kangarootwelve.specs.Published.{chunk}
use Rattle.kangarootwelve.specs.Count.{open_kt}
use Rattle.kangarootwelve.proofs.Published.{chunk_is}
use Rattle.kangarootwelve.proofs.Nodes.{position-le}
use Rattle.kangarootwelve.proofs.Numbers.{index-fits}
use Rattle.kangarootwelve.proofs.Tests.{open_is, other_count, other_leaf, node_left, leaf_first, leaf-later, final_first, final-later}
use Rattle.kangarootwelve.proofs.reached.is_due.Goals as goal

pub tree_count-requires : goal.tree_count-requires
tree_count-requires c =
    let n = c.args.at.absorbed + c.args.at.customized in (index-fits n c.index_after-index.result c.index_after-index.ensures (omega (arith, c.requires)), rw c.position_after-position.ensures (position-le 8192 (omega arith) n))

pub returns-then-at-tree_count : goal.returns-then-at-tree_count
returns-then-at-tree_count c =
    let counted : (let a = c.args in c.tree_count.result ≡ open_kt a.strength.rate a.strength.chaining (a.at.absorbed + a.at.customized)) = (let a = c.args in
    open_is a.strength.rate a.strength.chaining (a.at.absorbed + a.at.customized) c.index_after-index.result c.position_after-position.result c.tree_count.result
    c.index_after-index.ensures c.position_after-position.ensures c.tree_count.ensures) in
    let a = c.args in other_count a.strength.rate a.strength.chaining a.at c.tree_count.result (counted) c.if-at-tree_count.true

pub returns-then-at-ne0 : goal.returns-then-at-ne0
returns-then-at-ne0 c =
    let a = c.args in
    other_leaf a.strength.rate a.strength.chaining a.at 0 (leaf_first a.strength.rate (a.at.absorbed + a.at.customized) c.index_after-index.result c.index_after-index.ensures c.if-index-eq0.true) c.if-at-ne0.true

pub returns-then-index-eq0 : goal.returns-then-index-eq0
returns-then-index-eq0 c =
    let counted : (let a = c.args in c.tree_count.result ≡ open_kt a.strength.rate a.strength.chaining (a.at.absorbed + a.at.customized)) = (let a = c.args in
    open_is a.strength.rate a.strength.chaining (a.at.absorbed + a.at.customized) c.index_after-index.result c.position_after-position.result c.tree_count.result
    c.index_after-index.ensures c.position_after-position.ensures c.tree_count.ensures) in
    let reached : (let a = c.args in c.position_after-reached.result ≡ position_after a.strength.rate (position_after chunk (a.at.absorbed + a.at.customized))) = (let a = c.args in
    c.position_after-reached.ensures ∙ ap (position_after a.strength.rate) (c.position_after-position.ensures ∙ ap (λ (k : ℕ). position_after k (a.at.absorbed + a.at.customized)) (sym chunk_is))) in
    let a = c.args in
    let n = a.at.absorbed + a.at.customized in
    let i = c.index_after-index in
    node_left a.strength.rate a.strength.chaining a.at c.tree_count.result 0 c.position_after-reached.result (counted) c.if-at-tree_count.false
    (leaf_first a.strength.rate n i.result i.ensures c.if-index-eq0.true) c.if-at-ne0.false
    (final_first a.strength.rate a.strength.chaining n i.result c.position_after-reached.result i.ensures c.if-index-eq0.true (reached))

pub returns-then-at-reached : goal.returns-then-at-reached
returns-then-at-reached c =
    let reached : (let a = c.args in c.position_after-reached.result ≡ position_after a.strength.rate (position_after chunk (a.at.absorbed + a.at.customized))) = (let a = c.args in
    c.position_after-reached.ensures ∙ ap (position_after a.strength.rate) (c.position_after-position.ensures ∙ ap (λ (k : ℕ). position_after k (a.at.absorbed + a.at.customized)) (sym chunk_is))) in
    let a = c.args in
    let i = c.index_after-index in
    other_leaf a.strength.rate a.strength.chaining a.at c.position_after-reached.result
    (leaf-later a.strength.rate (a.at.absorbed + a.at.customized) i.result c.position_after-reached.result i.ensures c.if-index-eq0.false (reached)) c.if-at-reached.true

pub node_bytes-requires : goal.node_bytes-requires
node_bytes-requires c =
    let f = index-fits (c.args.at.absorbed + c.args.at.customized) c.index_after-index.result c.index_after-index.ensures (omega (arith, c.requires)) in
    omega (arith, f)

pub returns : goal.returns
returns c =
    let counted : (let a = c.args in c.tree_count.result ≡ open_kt a.strength.rate a.strength.chaining (a.at.absorbed + a.at.customized)) = (let a = c.args in
    open_is a.strength.rate a.strength.chaining (a.at.absorbed + a.at.customized) c.index_after-index.result c.position_after-position.result c.tree_count.result
    c.index_after-index.ensures c.position_after-position.ensures c.tree_count.ensures) in
    let reached : (let a = c.args in c.position_after-reached.result ≡ position_after a.strength.rate (position_after chunk (a.at.absorbed + a.at.customized))) = (let a = c.args in
    c.position_after-reached.ensures ∙ ap (position_after a.strength.rate) (c.position_after-position.ensures ∙ ap (λ (k : ℕ). position_after k (a.at.absorbed + a.at.customized)) (sym chunk_is))) in
    let a = c.args in
    let n = a.at.absorbed + a.at.customized in
    let i = c.index_after-index in
    node_left a.strength.rate a.strength.chaining a.at c.tree_count.result c.position_after-reached.result c.position_after.result (counted) c.if-at-tree_count.false
    (leaf-later a.strength.rate n i.result c.position_after-reached.result i.ensures c.if-index-eq0.false (reached)) c.if-at-reached.false
    (final-later a.strength.rate a.strength.chaining n i.result c.position_after.result i.ensures c.if-index-eq0.false
    (c.position_after.ensures ∙ ap (position_after a.strength.rate) c.node_bytes.ensures.0))
