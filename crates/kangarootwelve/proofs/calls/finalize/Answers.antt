use mathlib.Core.Path.{◌≡◌, ap, sym, ◌∙◌, subst}
use mathlib.Core.Bool.{true}
use Prim.Native.Nat.{◌+◌, ◌≤◌}
use native.Mathlib.Omega.{arith}
use lib.ListN.{replicate}
use Rattle.sponge.specs.Transcript.{Call.finalize}
use Rattle.sponge.proofs.Answers.{finalize_3, finalize-argument}
use Rattle.kangarootwelve.specs.Transcript.{rules}
use Rattle.kangarootwelve.specs.Tree.{finalize_tree}
use Rattle.kangarootwelve.specs.Model.{machine, seen}
use Rattle.kangarootwelve.specs.Inside.{Fits, tree_of, reached_at, run_with, answered}
use Rattle.kangarootwelve.specs.declared.Run.{Run}
use Rattle.kangarootwelve.specs.declared.Place.{Place}
use Rattle.kangarootwelve.specs.declared.Moved.{Moved}
use Rattle.kangarootwelve.specs.declared.Progress.{Progress}
use Rattle.kangarootwelve.proofs.Cases.{passes, Passed, fits, open_passed, not-customized, refused_is, not_open_is, place-fits, place-index, finalize-answer, customization_4, customization_0}
use Rattle.kangarootwelve.proofs.calls.finalize.Goals as goal

pub returns-then-not-is_open : goal.returns-then-not-is_open
returns-then-not-is_open c =
    let a = c.args in
    let r : Run = run_with a.node.now a.leaf.now a.at in
    ap (λ (m : Moved). answered m a.node.now a.leaf.now) c.refused.ensures
    ∙ not_open_is a.strength.rate a.strength.chaining r (finalize a.customization.now) c.status_if_not_open.result c.status_if_not_open.ensures
    (sym c.is_open.ensures ∙ c.if-not-is_open.true)
    (λ t h. finalize_3 (rules a.strength.rate a.strength.chaining) (machine a.strength.rate a.strength.chaining) (seen r) (passes a.strength.rate a.strength.chaining r true t) a.customization.now (λ z. omega (arith, h, z)))

pub returns-then-at-ne-ABSORBING : goal.returns-then-at-ne-ABSORBING
returns-then-at-ne-ABSORBING c =
    let was : ((c.args.at.phase ≡ 1 → ⊥) × (reached_at c.args.strength.rate c.args.strength.chaining c.args.at ≡ true)) = (open_passed c.args.at.phase _ (sym c.is_open.ensures ∙ c.if-not-is_open.false)) in
    let a = c.args in
    let r : Run = run_with a.node.now a.leaf.now a.at in
    let e = finalize_3 (rules a.strength.rate a.strength.chaining) (machine a.strength.rate a.strength.chaining) (seen r) (passes a.strength.rate a.strength.chaining r true (was).1) a.customization.now c.if-at-ne-ABSORBING.true in
    ap (λ (m : Moved). answered m a.node.now a.leaf.now) c.refused-then-at-ne-ABSORBING.ensures ∙ refused_is a.strength.rate a.strength.chaining r (finalize a.customization.now) 2 e

pub returns-then-customization-gt-CUSTOMIZATION_LIMIT : goal.returns-then-customization-gt-CUSTOMIZATION_LIMIT
returns-then-customization-gt-CUSTOMIZATION_LIMIT c =
    let was : ((c.args.at.phase ≡ 1 → ⊥) × (reached_at c.args.strength.rate c.args.strength.chaining c.args.at ≡ true)) = (open_passed c.args.at.phase _ (sym c.is_open.ensures ∙ c.if-not-is_open.false)) in
    let a = c.args in
    let r : Run = run_with a.node.now a.leaf.now a.at in
    let e = finalize-argument (rules a.strength.rate a.strength.chaining) (machine a.strength.rate a.strength.chaining) (seen r) (passes a.strength.rate a.strength.chaining r true (was).1) a.customization.now c.if-at-ne-ABSORBING.false ∙ customization_4 a.strength.rate a.strength.chaining a.customization.now c.if-customization-gt-CUSTOMIZATION_LIMIT.true in
    ap (λ (m : Moved). answered m a.node.now a.leaf.now) c.refused-then-customization-gt-CUSTOMIZATION_LIMIT.ensures ∙ refused_is a.strength.rate a.strength.chaining r (finalize a.customization.now) 3 e

pub place-requires : goal.place-requires
place-requires c =
    let was : ((c.args.at.phase ≡ 1 → ⊥) × (reached_at c.args.strength.rate c.args.strength.chaining c.args.at ≡ true)) = (open_passed c.args.at.phase _ (sym c.is_open.ensures ∙ c.if-not-is_open.false)) in
    let passed : (let a = c.args in Passed a.strength.rate a.strength.chaining (run_with a.node.now a.leaf.now a.at)) = (fits c.args.strength.rate c.args.strength.chaining (run_with c.args.node.now c.args.leaf.now c.args.at) c.args.strength.bounds.0 (was).1) in
    let h = passed in omega (arith, h.absorbed-fits, h.customized-fits)

pub finalize-requires : goal.finalize-requires
finalize-requires c =
    let was : ((c.args.at.phase ≡ 1 → ⊥) × (reached_at c.args.strength.rate c.args.strength.chaining c.args.at ≡ true)) = (open_passed c.args.at.phase _ (sym c.is_open.ensures ∙ c.if-not-is_open.false)) in
    let passed : (let a = c.args in Passed a.strength.rate a.strength.chaining (run_with a.node.now a.leaf.now a.at)) = (fits c.args.strength.rate c.args.strength.chaining (run_with c.args.node.now c.args.leaf.now c.args.at) c.args.strength.bounds.0 (was).1) in
    let h = passed in
    let at = c.place in
    let few : at.result.index ≤ c.args.at.absorbed + c.args.at.customized = rw at.ensures (place-index c.args.strength.rate c.args.strength.chaining c.args.node.now c.args.leaf.now c.args.at) in (subst (λ (p : Place). Fits c.args.strength.rate (tree_of c.args.node.now c.args.leaf.now p)) (sym at.ensures) (place-fits c.args.strength.rate c.args.strength.chaining c.args.node.now c.args.leaf.now c.args.at h.node_fits h.leaf-fits), omega (arith, few, h.absorbed-fits, h.customized-fits, c.if-customization-gt-CUSTOMIZATION_LIMIT.false))

pub closed-requires : goal.closed-requires
closed-requires c =
    let was : ((c.args.at.phase ≡ 1 → ⊥) × (reached_at c.args.strength.rate c.args.strength.chaining c.args.at ≡ true)) = (open_passed c.args.at.phase _ (sym c.is_open.ensures ∙ c.if-not-is_open.false)) in
    let passed : (let a = c.args in Passed a.strength.rate a.strength.chaining (run_with a.node.now a.leaf.now a.at)) = (fits c.args.strength.rate c.args.strength.chaining (run_with c.args.node.now c.args.leaf.now c.args.at) c.args.strength.bounds.0 (was).1) in
    let h = passed in
    (h.absorbed-fits, omega (arith, c.if-customization-gt-CUSTOMIZATION_LIMIT.false), h.squeezed-fits)

pub returns : goal.returns
returns c =
    let was : ((c.args.at.phase ≡ 1 → ⊥) × (reached_at c.args.strength.rate c.args.strength.chaining c.args.at ≡ true)) = (open_passed c.args.at.phase _ (sym c.is_open.ensures ∙ c.if-not-is_open.false)) in
    let a = c.args in
    let r : Run = run_with a.node.now a.leaf.now a.at in
    let w = (was).1 in
    let f = c.finalize in
    let e = finalize-argument (rules a.strength.rate a.strength.chaining) (machine a.strength.rate a.strength.chaining) (seen r) (passes a.strength.rate a.strength.chaining r true w) a.customization.now c.if-at-ne-ABSORBING.false ∙ customization_0 a.strength.rate a.strength.chaining a.customization.now c.if-customization-gt-CUSTOMIZATION_LIMIT.false in
    ap (λ (p : Progress). answered (record { at = p; status = 0 }) f.new.node (replicate 25 0)) c.closed.ensures
    ∙ finalize-answer a.strength.rate a.strength.chaining a.node.now a.leaf.now a.at c.args.strength.bounds.0 w a.customization.now f.new.node
    (not-customized a.strength.rate a.strength.chaining r w c.if-at-ne-ABSORBING.false)
    (f.ensures ∙ ap (λ (p : Place). finalize_tree a.strength.rate a.strength.chaining (tree_of a.node.now a.leaf.now p) a.customization.now) c.place.ensures) e
