use mathlib.Core.Path.{refl, ap, sym, ◌∙◌, subst}
use Prim.Native.Nat.{◌+◌}
use native.Mathlib.Omega.{arith}
use lib.ListN.{length}
use Rattle.sponge.proofs.Lent.{lent-refused}
use Rattle.kangarootwelve.specs.Model.{states_after}
use Rattle.kangarootwelve.specs.Inside.{Fits, tree_of, run_with}
use Rattle.kangarootwelve.specs.declared.Run.{Run}
use Rattle.kangarootwelve.specs.declared.Place.{Place}
use Rattle.kangarootwelve.specs.declared.Moved.{Moved}
use Rattle.kangarootwelve.proofs.Values.{cleared_is, cleared-length}
use Rattle.kangarootwelve.proofs.Feed.{Taken, feed_taken, feed_refused, Ready, ready, feed_done, feed_12, abreast_taken}
use Rattle.kangarootwelve.proofs.calls.absorb_abreast.Goals as goal

pub returns-then-states-ne100 : goal.returns-then-states-ne100
returns-then-states-ne100 c =
    let a = c.args in record {
      leaf_after = feed_12 a.strength.rate a.strength.chaining (run_with a.node.now a.leaf.now a.at) a.states.now a.piece.now c.refused.result a.at a.node.now a.leaf.now refl c.if-states-ne100.true c.refused.ensures;
      states_after = ap (λ (m : Moved). states_after m.status a.states.now) (sym c.refused.ensures);
    }

pub returns-then-refusal-ne-DONE : goal.returns-then-refusal-ne-DONE
returns-then-refusal-ne-DONE c =
    let a = c.args in
    let r : Run = run_with a.node.now a.leaf.now a.at in
    let n = c.absorb_status-refusal in record {
      leaf_after = feed_refused a.strength.rate a.strength.chaining c.args.strength.bounds.0 a.node.now a.leaf.now a.at a.piece.now n.result c.refused-then-refusal-ne-DONE.result n.ensures c.if-refusal-ne-DONE.true c.refused-then-refusal-ne-DONE.ensures
          ∙ abreast_taken a.strength.rate a.strength.chaining r a.states.now a.piece.now c.if-states-ne100.false;
      states_after = lent-refused n.result c.if-refusal-ne-DONE.true _ a.states.now ∙ ap (λ (m : Moved). states_after m.status a.states.now) (sym c.refused-then-refusal-ne-DONE.ensures);
    }

pub place-from-requires : goal.place-from-requires
place-from-requires c =
    let taken : (let a = c.args in Taken a.strength.rate a.strength.chaining a.at (length a.piece.now)) = (let a = c.args in feed_taken a.strength.rate a.strength.chaining a.at (length a.piece.now) (sym c.absorb_status-refusal.ensures ∙ c.if-refusal-ne-DONE.false)) in
    let asked : (Ready c.args.strength.rate c.args.strength.chaining c.args.strength.bounds.0 c.args.node.now c.args.leaf.now c.args.at c.args.piece.now) = (ready c.args.strength.rate c.args.strength.chaining c.args.strength.bounds.0 c.args.node.now c.args.leaf.now c.args.at c.args.piece.now (taken)) in
    (asked).totals_fit

pub count_after-counted-requires : goal.count_after-counted-requires
count_after-counted-requires c =
    let taken : (let a = c.args in Taken a.strength.rate a.strength.chaining a.at (length a.piece.now)) = (let a = c.args in feed_taken a.strength.rate a.strength.chaining a.at (length a.piece.now) (sym c.absorb_status-refusal.ensures ∙ c.if-refusal-ne-DONE.false)) in
    let asked : (Ready c.args.strength.rate c.args.strength.chaining c.args.strength.bounds.0 c.args.node.now c.args.leaf.now c.args.at c.args.piece.now) = (ready c.args.strength.rate c.args.strength.chaining c.args.strength.bounds.0 c.args.node.now c.args.leaf.now c.args.at c.args.piece.now (taken)) in
    let h = asked in (h.due, c.place-from.ensures, h.more_fits)

pub absorb-after-requires : goal.absorb-after-requires
absorb-after-requires c =
    let taken : (let a = c.args in Taken a.strength.rate a.strength.chaining a.at (length a.piece.now)) = (let a = c.args in feed_taken a.strength.rate a.strength.chaining a.at (length a.piece.now) (sym c.absorb_status-refusal.ensures ∙ c.if-refusal-ne-DONE.false)) in
    let asked : (Ready c.args.strength.rate c.args.strength.chaining c.args.strength.bounds.0 c.args.node.now c.args.leaf.now c.args.at c.args.piece.now) = (ready c.args.strength.rate c.args.strength.chaining c.args.strength.bounds.0 c.args.node.now c.args.leaf.now c.args.at c.args.piece.now (taken)) in
    let h = asked in
    let e = c.place-from.ensures in record {
      place_fits = (subst (λ (p : Place). Fits c.args.strength.rate (tree_of c.args.node.now c.args.leaf.now p)) (sym e) h.tree-fits, omega (arith, h.index-fits, ap (λ (p : Place). p.index) e));
      states_cleared = cleared_is c.args.states.now _ c.clear.ensures c.if-states-ne100.false;
    }

pub overflow_add-at : goal.overflow_add-at
overflow_add-at c =
    let taken : (let a = c.args in Taken a.strength.rate a.strength.chaining a.at (length a.piece.now)) = (let a = c.args in feed_taken a.strength.rate a.strength.chaining a.at (length a.piece.now) (sym c.absorb_status-refusal.ensures ∙ c.if-refusal-ne-DONE.false)) in
    let t = taken in omega (arith, t.fed)

pub shape_of-states : goal.shape_of-states
shape_of-states c = ap length c.absorb-after.ensures.fits.1 ∙ cleared-length ∙ sym c.if-states-ne100.false

pub returns : goal.returns
returns c =
    let taken : (let a = c.args in Taken a.strength.rate a.strength.chaining a.at (length a.piece.now)) = (let a = c.args in feed_taken a.strength.rate a.strength.chaining a.at (length a.piece.now) (sym c.absorb_status-refusal.ensures ∙ c.if-refusal-ne-DONE.false)) in
    let a = c.args in
    let o = c.absorb-after in
    let n = c.count_after-counted in
    let p = c.place-from in
    let r : Run = run_with a.node.now a.leaf.now a.at in
    let hundred = c.if-states-ne100.false in record {
      leaf_after = feed_done a.strength.rate a.strength.chaining c.args.strength.bounds.0 a.node.now a.leaf.now a.at a.piece.now o.new.node o.new.leaf p.result o.result (a.at.absorbed + length a.piece.now) n.result
          c.absorbed.result (taken) p.ensures refl o.ensures.result_after n.ensures c.absorbed.ensures
          ∙ abreast_taken a.strength.rate a.strength.chaining r a.states.now a.piece.now hundred;
      states_after = o.ensures.fits.1 ∙ sym (cleared_is a.states.now _ refl hundred) ∙ ap (λ (m : Moved). states_after m.status a.states.now) (sym c.absorbed.ensures);
    }
