use mathlib.Core.Path.{refl, ap, sym, ◌∙◌, subst}
use Prim.Native.Nat.{◌+◌}
use native.Mathlib.Omega.{arith}
use lib.ListN.{length}
use Rattle.kangarootwelve.specs.Inside.{Fits, tree_of}
use Rattle.kangarootwelve.specs.declared.Place.{Place}
use Rattle.kangarootwelve.proofs.Feed.{Taken, feed_taken, feed_refused, Ready, ready, feed_done}
use Rattle.kangarootwelve.proofs.calls.absorb.Goals as goal

pub returns-then-refusal-ne-DONE : goal.returns-then-refusal-ne-DONE
returns-then-refusal-ne-DONE c =
    let a = c.args in
    feed_refused a.strength.rate a.strength.chaining c.args.strength.bounds.0 a.node.now a.leaf.now a.at a.piece.now c.absorb_status-refusal.result c.refused.result c.absorb_status-refusal.ensures c.if-refusal-ne-DONE.true c.refused.ensures

pub place-from-requires : goal.place-from-requires
place-from-requires c =
    let taken : (let a = c.args in Taken a.strength.rate a.strength.chaining a.at (length a.piece.now)) = (let a = c.args in feed_taken a.strength.rate a.strength.chaining a.at (length a.piece.now) (sym c.absorb_status-refusal.ensures ∙ c.if-refusal-ne-DONE.false)) in
    let asked : (Ready c.args.strength.rate c.args.strength.chaining c.args.strength.bounds.0 c.args.node.now c.args.leaf.now c.args.at c.args.piece.now) = (ready c.args.strength.rate c.args.strength.chaining c.args.strength.bounds.0 c.args.node.now c.args.leaf.now c.args.at c.args.piece.now (taken)) in
    (asked).totals_fit

pub count_after-counted-requires : goal.count_after-counted-requires
count_after-counted-requires c =
    let taken : (let a = c.args in Taken a.strength.rate a.strength.chaining a.at (length a.piece.now)) = (let a = c.args in feed_taken a.strength.rate a.strength.chaining a.at (length a.piece.now) (sym c.absorb_status-refusal.ensures ∙ c.if-refusal-ne-DONE.false)) in
    let asked : (Ready c.args.strength.rate c.args.strength.chaining c.args.strength.bounds.0 c.args.node.now c.args.leaf.now c.args.at c.args.piece.now) = (ready c.args.strength.rate c.args.strength.chaining c.args.strength.bounds.0 c.args.node.now c.args.leaf.now c.args.at c.args.piece.now (taken)) in
    let h = asked in (h.due, c.place-from.ensures, h.more_fits)

pub absorb-after-requires : goal.absorb-after-requires
absorb-after-requires c =
    let taken : (let a = c.args in Taken a.strength.rate a.strength.chaining a.at (length a.piece.now)) = (let a = c.args in feed_taken a.strength.rate a.strength.chaining a.at (length a.piece.now) (sym c.absorb_status-refusal.ensures ∙ c.if-refusal-ne-DONE.false)) in
    let asked : (Ready c.args.strength.rate c.args.strength.chaining c.args.strength.bounds.0 c.args.node.now c.args.leaf.now c.args.at c.args.piece.now) = (ready c.args.strength.rate c.args.strength.chaining c.args.strength.bounds.0 c.args.node.now c.args.leaf.now c.args.at c.args.piece.now (taken)) in
    let h = asked in
    let e = c.place-from.ensures in (subst (λ (p : Place). Fits c.args.strength.rate (tree_of c.args.node.now c.args.leaf.now p)) (sym e) h.tree-fits, omega (arith, h.index-fits, ap (λ (p : Place). p.index) e))

pub overflow_add-at : goal.overflow_add-at
overflow_add-at c =
    let taken : (let a = c.args in Taken a.strength.rate a.strength.chaining a.at (length a.piece.now)) = (let a = c.args in feed_taken a.strength.rate a.strength.chaining a.at (length a.piece.now) (sym c.absorb_status-refusal.ensures ∙ c.if-refusal-ne-DONE.false)) in
    let t = taken in omega (arith, t.fed)

pub returns : goal.returns
returns c =
    let taken : (let a = c.args in Taken a.strength.rate a.strength.chaining a.at (length a.piece.now)) = (let a = c.args in feed_taken a.strength.rate a.strength.chaining a.at (length a.piece.now) (sym c.absorb_status-refusal.ensures ∙ c.if-refusal-ne-DONE.false)) in
    let a = c.args in
    let o = c.absorb-after in
    let n = c.count_after-counted in
    let p = c.place-from in
    feed_done a.strength.rate a.strength.chaining c.args.strength.bounds.0 a.node.now a.leaf.now a.at a.piece.now o.new.node o.new.leaf p.result o.result (a.at.absorbed + length a.piece.now) n.result
    c.absorbed.result (taken) p.ensures refl o.ensures.result_after n.ensures c.absorbed.ensures
