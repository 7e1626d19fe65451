use mathlib.Core.Path.{◌≡◌, refl, ap, sym, ◌∙◌, subst}
use mathlib.Core.Bool.{true}
use Prim.Native.Nat.{◌+◌, ◌≤◌}
use native.Mathlib.Nat.{add_assoc}
use native.Mathlib.Omega.{arith}
use lib.ListN.{length}
use Rattle.sponge.specs.Transcript.{Call.customize}
use Rattle.sponge.proofs.Answers.{customize_3, customize_4, customize_0}
use Rattle.kangarootwelve.specs.Transcript.{customization_limit, rules}
use Rattle.kangarootwelve.specs.Tree.{absorb_tree}
use Rattle.kangarootwelve.specs.Count.{open_kt}
use Rattle.kangarootwelve.specs.Model.{machine, seen}
use Rattle.kangarootwelve.specs.Inside.{Fits, tree_of, reached_at, run_with, answered}
use Rattle.kangarootwelve.specs.declared.Run.{Run}
use Rattle.kangarootwelve.specs.declared.Place.{Place}
use Rattle.kangarootwelve.specs.declared.Moved.{Moved}
use Rattle.kangarootwelve.proofs.Cases.{passes, Passed, fits, open_passed, refused_is, not_open_is, due_told, place-fits, place-index, customize-answer}
use Rattle.kangarootwelve.proofs.calls.customize.Goals as goal

pub returns-then-not-is_open : goal.returns-then-not-is_open
returns-then-not-is_open c =
    let a = c.args in
    let r : Run = run_with a.node.now a.leaf.now a.at in
    ap (λ (m : Moved). answered m a.node.now a.leaf.now) c.refused.ensures
    ∙ not_open_is a.strength.rate a.strength.chaining r (customize a.piece.now) c.status_if_not_open.result c.status_if_not_open.ensures
    (sym c.is_open.ensures ∙ c.if-not-is_open.true)
    (λ t h. customize_3 (rules a.strength.rate a.strength.chaining) (machine a.strength.rate a.strength.chaining) (seen r) (passes a.strength.rate a.strength.chaining r true t) a.piece.now h)

pub overflow_add-total : goal.overflow_add-total
overflow_add-total c =
    let was : ((c.args.at.phase ≡ 1 → ⊥) × (reached_at c.args.strength.rate c.args.strength.chaining c.args.at ≡ true)) = (open_passed c.args.at.phase _ (sym c.is_open.ensures ∙ c.if-not-is_open.false)) in
    let passed : (let a = c.args in Passed a.strength.rate a.strength.chaining (run_with a.node.now a.leaf.now a.at)) = (fits c.args.strength.rate c.args.strength.chaining (run_with c.args.node.now c.args.leaf.now c.args.at) c.args.strength.bounds.0 (was).1) in
    let h = passed in omega (arith, h.customized-fits)

pub returns-then-total-gt-CUSTOMIZATION_LIMIT : goal.returns-then-total-gt-CUSTOMIZATION_LIMIT
unfolding rules machine
returns-then-total-gt-CUSTOMIZATION_LIMIT c =
    let was : ((c.args.at.phase ≡ 1 → ⊥) × (reached_at c.args.strength.rate c.args.strength.chaining c.args.at ≡ true)) = (open_passed c.args.at.phase _ (sym c.is_open.ensures ∙ c.if-not-is_open.false)) in
    let a = c.args in
    let r : Run = run_with a.node.now a.leaf.now a.at in
    let e = customize_4 (rules a.strength.rate a.strength.chaining) (machine a.strength.rate a.strength.chaining) (seen r) (passes a.strength.rate a.strength.chaining r true (was).1) customization_limit (λ c. c) refl a.piece.now (was).0 c.if-total-gt-CUSTOMIZATION_LIMIT.true in
    ap (λ (m : Moved). answered m a.node.now a.leaf.now) c.refused-then-total-gt-CUSTOMIZATION_LIMIT.ensures ∙ refused_is a.strength.rate a.strength.chaining r (customize a.piece.now) 3 e

pub place-from-requires : goal.place-from-requires
place-from-requires c =
    let was : ((c.args.at.phase ≡ 1 → ⊥) × (reached_at c.args.strength.rate c.args.strength.chaining c.args.at ≡ true)) = (open_passed c.args.at.phase _ (sym c.is_open.ensures ∙ c.if-not-is_open.false)) in
    let passed : (let a = c.args in Passed a.strength.rate a.strength.chaining (run_with a.node.now a.leaf.now a.at)) = (fits c.args.strength.rate c.args.strength.chaining (run_with c.args.node.now c.args.leaf.now c.args.at) c.args.strength.bounds.0 (was).1) in
    let h = passed in omega (arith, h.absorbed-fits, h.customized-fits)

pub count_after-counted-requires : goal.count_after-counted-requires
count_after-counted-requires c =
    let was : ((c.args.at.phase ≡ 1 → ⊥) × (reached_at c.args.strength.rate c.args.strength.chaining c.args.at ≡ true)) = (open_passed c.args.at.phase _ (sym c.is_open.ensures ∙ c.if-not-is_open.false)) in
    let passed : (let a = c.args in Passed a.strength.rate a.strength.chaining (run_with a.node.now a.leaf.now a.at)) = (fits c.args.strength.rate c.args.strength.chaining (run_with c.args.node.now c.args.leaf.now c.args.at) c.args.strength.bounds.0 (was).1) in
    let h = passed in (due_told c.args.strength.rate c.args.strength.chaining c.args.node.now c.args.leaf.now c.args.at (was).1 (was).0, c.place-from.ensures, omega (arith, c.if-total-gt-CUSTOMIZATION_LIMIT.false, h.absorbed-fits))

pub absorb-after-requires : goal.absorb-after-requires
absorb-after-requires c =
    let was : ((c.args.at.phase ≡ 1 → ⊥) × (reached_at c.args.strength.rate c.args.strength.chaining c.args.at ≡ true)) = (open_passed c.args.at.phase _ (sym c.is_open.ensures ∙ c.if-not-is_open.false)) in
    let passed : (let a = c.args in Passed a.strength.rate a.strength.chaining (run_with a.node.now a.leaf.now a.at)) = (fits c.args.strength.rate c.args.strength.chaining (run_with c.args.node.now c.args.leaf.now c.args.at) c.args.strength.bounds.0 (was).1) in
    let h = passed in
    let at = c.place-from in
    let few : at.result.index ≤ c.args.at.absorbed + c.args.at.customized = rw at.ensures (place-index c.args.strength.rate c.args.strength.chaining c.args.node.now c.args.leaf.now c.args.at) in (subst (λ (p : Place). Fits c.args.strength.rate (tree_of c.args.node.now c.args.leaf.now p)) (sym at.ensures) (place-fits c.args.strength.rate c.args.strength.chaining c.args.node.now c.args.leaf.now c.args.at h.node_fits h.leaf-fits), omega (arith, few, h.absorbed-fits, h.customized-fits))

pub returns : goal.returns
unfolding rules machine
returns c =
    let was : ((c.args.at.phase ≡ 1 → ⊥) × (reached_at c.args.strength.rate c.args.strength.chaining c.args.at ≡ true)) = (open_passed c.args.at.phase _ (sym c.is_open.ensures ∙ c.if-not-is_open.false)) in
    let a = c.args in
    let r : Run = run_with a.node.now a.leaf.now a.at in
    let w = was in
    let n = c.count_after-counted in
    let e = customize_0 (rules a.strength.rate a.strength.chaining) (machine a.strength.rate a.strength.chaining) (seen r) (passes a.strength.rate a.strength.chaining r true w.1) customization_limit (λ c. c) refl a.piece.now w.0 c.if-total-gt-CUSTOMIZATION_LIMIT.false in
    customize-answer a.strength.rate a.strength.chaining a.node.now a.leaf.now a.at c.args.strength.bounds.0 w.1 a.piece.now c.absorb-after.new.node c.absorb-after.new.leaf c.absorb-after.result n.result
    (c.absorb-after.ensures.result_after ∙ ap (λ (p : Place). absorb_tree a.strength.rate a.strength.chaining (tree_of a.node.now a.leaf.now p) a.piece.now) c.place-from.ensures)
    (n.ensures ∙ ap (open_kt a.strength.rate a.strength.chaining) (add_assoc a.at.absorbed a.at.customized (length a.piece.now))) e
