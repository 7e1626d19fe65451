use mathlib.Core.Path.{◌≡◌, refl, ap, sym, ◌∙◌, subst}
use mathlib.Core.Bool.{true}
use Prim.Native.Nat.{◌+◌, ◌≤◌}
use native.Mathlib.Omega.{arith}
use lib.ListN.{replicate}
use Rattle.sponge.specs.Transcript.{Call.finish}
use Rattle.sponge.proofs.Answers.{finish_3, finish_0}
use Rattle.kangarootwelve.specs.Transcript.{customization_limit, rules}
use Rattle.kangarootwelve.specs.Tree.{finish_tree}
use Rattle.kangarootwelve.specs.Model.{machine, seen}
use Rattle.kangarootwelve.specs.Inside.{Fits, tree_of, reached_at, run_with, answered}
use Rattle.kangarootwelve.specs.declared.Run.{Run}
use Rattle.kangarootwelve.specs.declared.Place.{Place}
use Rattle.kangarootwelve.specs.declared.Moved.{Moved}
use Rattle.kangarootwelve.specs.declared.Progress.{Progress}
use Rattle.kangarootwelve.proofs.Cases.{passes, Passed, fits, open_passed, refused_is, not_open_is, place-fits, place-index, finish-answer}
use Rattle.kangarootwelve.proofs.calls.finish.Goals as goal

pub returns-then-not-is_open : goal.returns-then-not-is_open
returns-then-not-is_open c =
    let a = c.args in
    let r : Run = run_with a.node.now a.leaf.now a.at in
    ap (λ (m : Moved). answered m a.node.now a.leaf.now) c.refused.ensures
    ∙ not_open_is a.strength.rate a.strength.chaining r finish c.status_if_not_open.result c.status_if_not_open.ensures
    (sym c.is_open.ensures ∙ c.if-not-is_open.true)
    (λ t h. finish_3 (rules a.strength.rate a.strength.chaining) (machine a.strength.rate a.strength.chaining) (seen r) (passes a.strength.rate a.strength.chaining r true t) (λ z. omega (arith, h, z)))

pub returns-then-at-ne-CUSTOMIZING : goal.returns-then-at-ne-CUSTOMIZING
returns-then-at-ne-CUSTOMIZING c =
    let was : ((c.args.at.phase ≡ 1 → ⊥) × (reached_at c.args.strength.rate c.args.strength.chaining c.args.at ≡ true)) = (open_passed c.args.at.phase _ (sym c.is_open.ensures ∙ c.if-not-is_open.false)) in
    let a = c.args in
    let r : Run = run_with a.node.now a.leaf.now a.at in
    let e = finish_3 (rules a.strength.rate a.strength.chaining) (machine a.strength.rate a.strength.chaining) (seen r) (passes a.strength.rate a.strength.chaining r true (was).1) c.if-at-ne-CUSTOMIZING.true in
    ap (λ (m : Moved). answered m a.node.now a.leaf.now) c.refused-then-at-ne-CUSTOMIZING.ensures ∙ refused_is a.strength.rate a.strength.chaining r finish 2 e

pub place-requires : goal.place-requires
place-requires c =
    let was : ((c.args.at.phase ≡ 1 → ⊥) × (reached_at c.args.strength.rate c.args.strength.chaining c.args.at ≡ true)) = (open_passed c.args.at.phase _ (sym c.is_open.ensures ∙ c.if-not-is_open.false)) in
    let passed : (let a = c.args in Passed a.strength.rate a.strength.chaining (run_with a.node.now a.leaf.now a.at)) = (fits c.args.strength.rate c.args.strength.chaining (run_with c.args.node.now c.args.leaf.now c.args.at) c.args.strength.bounds.0 (was).1) in
    let h = passed in omega (arith, h.absorbed-fits, h.customized-fits)

pub finish-requires : goal.finish-requires
finish-requires c =
    let was : ((c.args.at.phase ≡ 1 → ⊥) × (reached_at c.args.strength.rate c.args.strength.chaining c.args.at ≡ true)) = (open_passed c.args.at.phase _ (sym c.is_open.ensures ∙ c.if-not-is_open.false)) in
    let passed : (let a = c.args in Passed a.strength.rate a.strength.chaining (run_with a.node.now a.leaf.now a.at)) = (fits c.args.strength.rate c.args.strength.chaining (run_with c.args.node.now c.args.leaf.now c.args.at) c.args.strength.bounds.0 (was).1) in
    let h = passed in
    let at = c.place in
    let few : at.result.index ≤ c.args.at.absorbed + c.args.at.customized = rw at.ensures (place-index c.args.strength.rate c.args.strength.chaining c.args.node.now c.args.leaf.now c.args.at) in (subst (λ (p : Place). Fits c.args.strength.rate (tree_of c.args.node.now c.args.leaf.now p)) (sym at.ensures) (place-fits c.args.strength.rate c.args.strength.chaining c.args.node.now c.args.leaf.now c.args.at h.node_fits h.leaf-fits), omega (arith, few, h.absorbed-fits, h.customized-fits))

pub closed-requires : goal.closed-requires
closed-requires c =
    let was : ((c.args.at.phase ≡ 1 → ⊥) × (reached_at c.args.strength.rate c.args.strength.chaining c.args.at ≡ true)) = (open_passed c.args.at.phase _ (sym c.is_open.ensures ∙ c.if-not-is_open.false)) in
    let passed : (let a = c.args in Passed a.strength.rate a.strength.chaining (run_with a.node.now a.leaf.now a.at)) = (fits c.args.strength.rate c.args.strength.chaining (run_with c.args.node.now c.args.leaf.now c.args.at) c.args.strength.bounds.0 (was).1) in
    let h = passed in
    (h.absorbed-fits, omega (arith, h.customized-fits), h.squeezed-fits)

pub returns : goal.returns
unfolding rules
returns c =
    let was : ((c.args.at.phase ≡ 1 → ⊥) × (reached_at c.args.strength.rate c.args.strength.chaining c.args.at ≡ true)) = (open_passed c.args.at.phase _ (sym c.is_open.ensures ∙ c.if-not-is_open.false)) in
    let a = c.args in
    let r : Run = run_with a.node.now a.leaf.now a.at in
    let w = (was).1 in
    let f = c.finish in
    let e = finish_0 (rules a.strength.rate a.strength.chaining) (machine a.strength.rate a.strength.chaining) (seen r) (passes a.strength.rate a.strength.chaining r true w) customization_limit (λ c. c) refl c.if-at-ne-CUSTOMIZING.false in
    ap (λ (p : Progress). answered (record { at = p; status = 0 }) f.new.node (replicate 25 0)) c.closed.ensures
    ∙ finish-answer a.strength.rate a.strength.chaining a.node.now a.leaf.now a.at c.args.strength.bounds.0 w f.new.node
    (f.ensures ∙ ap (λ (p : Place). finish_tree a.strength.rate a.strength.chaining (tree_of a.node.now a.leaf.now p) a.at.customized) c.place.ensures) e
