use mathlib.Core.Path.{◌≡◌, ap, sym, ◌∙◌}
use mathlib.Core.Bool.{true}
use mathlib.Core.List.{List, []}
use Prim.Native.Nat.{ℕ, ◌+◌}
use native.Mathlib.Omega.{arith}
use lib.ListN.{length}
use Rattle.sponge.specs.Transcript.{Call.squeeze}
use Rattle.sponge.specs.Runs.{run_status}
use Rattle.sponge.proofs.Answers.{squeeze_6, squeeze_0}
use Rattle.kangarootwelve.specs.Transcript.{rules}
use Rattle.kangarootwelve.specs.Model.{machine, seen}
use Rattle.kangarootwelve.specs.Inside.{reached_at, run_with, answered}
use Rattle.kangarootwelve.specs.declared.Moved.{Moved}
use Rattle.kangarootwelve.proofs.Cases.{passes, Passed, fits, closed_passed, refused_is, refused_other, not_closed_is, untouched, untouched_other, closed_count_lem, squeeze-answer, squeeze-written}
use Rattle.kangarootwelve.proofs.calls.squeeze.Goals as goal

pub returns-then-not-is_closed : goal.returns-then-not-is_closed
returns-then-not-is_closed c =
    let refusal : ((leaf : List ℕ) → let a = c.args in
    (run_status (rules a.strength.rate a.strength.chaining) (machine a.strength.rate a.strength.chaining) (seen (run_with a.node.now leaf a.at)) (squeeze (length a.out.now)) ≡ c.status_if_not_closed.result) × (c.status_if_not_closed.result ≡ 0 → ⊥)) = λ (leaf : List ℕ). (let a = c.args in
    not_closed_is a.strength.rate a.strength.chaining (run_with a.node.now leaf a.at) (length a.out.now) c.status_if_not_closed.result c.status_if_not_closed.ensures (sym c.is_closed.ensures ∙ c.if-not-is_closed.true)) in
    let a = c.args in
    record {
      by_index = λ leaf.
          ap (λ (m : Moved). answered m a.node.now leaf) c.refused.ensures
          ∙ refused_other a.strength.rate a.strength.chaining (run_with a.node.now leaf a.at) (squeeze (length a.out.now)) c.status_if_not_closed.result (refusal leaf).1 (refusal leaf).0;
      by_index_2 = λ leaf. untouched_other a.strength.rate a.strength.chaining (run_with a.node.now leaf a.at) a.out.now c.status_if_not_closed.result (refusal leaf).1 (refusal leaf).0;
    }

pub overflow_add-total : goal.overflow_add-total
overflow_add-total c =
    let was : ((c.args.at.phase ≡ 1) × (reached_at c.args.strength.rate c.args.strength.chaining c.args.at ≡ true)) = (closed_passed c.args.at.phase _ (sym c.is_closed.ensures ∙ c.if-not-is_closed.false)) in
    let passed : (let a = c.args in Passed a.strength.rate a.strength.chaining (run_with a.node.now [] a.at)) = (fits c.args.strength.rate c.args.strength.chaining (run_with c.args.node.now [] c.args.at) c.args.strength.bounds.0 (was).1) in
    let h = passed in omega (arith, h.squeezed-fits)

pub returns-then-total-gt-OUTPUT_LIMIT : goal.returns-then-total-gt-OUTPUT_LIMIT
unfolding machine
returns-then-total-gt-OUTPUT_LIMIT c =
    let was : ((c.args.at.phase ≡ 1) × (reached_at c.args.strength.rate c.args.strength.chaining c.args.at ≡ true)) = (closed_passed c.args.at.phase _ (sym c.is_closed.ensures ∙ c.if-not-is_closed.false)) in
    let too_long : ((leaf : List ℕ) → let a = c.args in
    run_status (rules a.strength.rate a.strength.chaining) (machine a.strength.rate a.strength.chaining) (seen (run_with a.node.now leaf a.at)) (squeeze (length a.out.now)) ≡ 6) = λ (leaf : List ℕ). (let a = c.args in
    let w = was in
    squeeze_6 (rules a.strength.rate a.strength.chaining) (machine a.strength.rate a.strength.chaining) (seen (run_with a.node.now leaf a.at)) (passes a.strength.rate a.strength.chaining (run_with a.node.now leaf a.at) true w.1) (length a.out.now) w.0 c.if-total-gt-OUTPUT_LIMIT.true) in
    let a = c.args in record {
      by_index = λ leaf.
          ap (λ (m : Moved). answered m a.node.now leaf) c.refused-then-total-gt-OUTPUT_LIMIT.ensures
          ∙ refused_is a.strength.rate a.strength.chaining (run_with a.node.now leaf a.at) (squeeze (length a.out.now)) 5 (too_long leaf);
      by_index_2 = λ leaf. untouched a.strength.rate a.strength.chaining (run_with a.node.now leaf a.at) a.out.now 5 (too_long leaf);
    }

pub overflow_add-at : goal.overflow_add-at
overflow_add-at c =
    let was : ((c.args.at.phase ≡ 1) × (reached_at c.args.strength.rate c.args.strength.chaining c.args.at ≡ true)) = (closed_passed c.args.at.phase _ (sym c.is_closed.ensures ∙ c.if-not-is_closed.false)) in
    let passed : (let a = c.args in Passed a.strength.rate a.strength.chaining (run_with a.node.now [] a.at)) = (fits c.args.strength.rate c.args.strength.chaining (run_with c.args.node.now [] c.args.at) c.args.strength.bounds.0 (was).1) in
    let h = passed in omega (arith, h.absorbed-fits, h.customized-fits)

pub closed_kt-counted-requires : goal.closed_kt-counted-requires
closed_kt-counted-requires c =
    let was : ((c.args.at.phase ≡ 1) × (reached_at c.args.strength.rate c.args.strength.chaining c.args.at ≡ true)) = (closed_passed c.args.at.phase _ (sym c.is_closed.ensures ∙ c.if-not-is_closed.false)) in
    let passed : (let a = c.args in Passed a.strength.rate a.strength.chaining (run_with a.node.now [] a.at)) = (fits c.args.strength.rate c.args.strength.chaining (run_with c.args.node.now [] c.args.at) c.args.strength.bounds.0 (was).1) in
    let h = passed in
    (omega (arith, h.absorbed-fits, h.customized-fits), h.customized-fits, omega (arith, c.if-total-gt-OUTPUT_LIMIT.false))

pub returns : goal.returns
unfolding machine
returns c =
    let was : ((c.args.at.phase ≡ 1) × (reached_at c.args.strength.rate c.args.strength.chaining c.args.at ≡ true)) = (closed_passed c.args.at.phase _ (sym c.is_closed.ensures ∙ c.if-not-is_closed.false)) in
    let passed : (let a = c.args in Passed a.strength.rate a.strength.chaining (run_with a.node.now [] a.at)) = (fits c.args.strength.rate c.args.strength.chaining (run_with c.args.node.now [] c.args.at) c.args.strength.bounds.0 (was).1) in
    let taken : ((leaf : List ℕ) → let a = c.args in
    run_status (rules a.strength.rate a.strength.chaining) (machine a.strength.rate a.strength.chaining) (seen (run_with a.node.now leaf a.at)) (squeeze (length a.out.now)) ≡ 0) = λ (leaf : List ℕ). (let a = c.args in
    let w = was in
    squeeze_0 (rules a.strength.rate a.strength.chaining) (machine a.strength.rate a.strength.chaining) (seen (run_with a.node.now leaf a.at)) (passes a.strength.rate a.strength.chaining (run_with a.node.now leaf a.at) true w.1) (length a.out.now) w.0 c.if-total-gt-OUTPUT_LIMIT.false) in
    let a = c.args in
    let s = c.squeeze-given in
    let w = was in
    let h = passed in
    let n = c.closed_kt-counted in record {
      by_index = λ leaf.
          squeeze-answer a.strength.rate a.strength.chaining a.node.now leaf a.at c.args.strength.bounds.0 c.args.strength.bounds.1 h.node_fits w.1 (length a.out.now)
          (record { status = s.result.status; state = record { value = s.new.lanes; position = s.result.position } }) n.result s.ensures.position_after
          (n.ensures ∙ closed_count_lem a.strength.rate a.strength.chaining a.at.phase (a.at.absorbed + a.at.customized) a.at.customized (a.at.squeezed + length a.out.now) w.0) (taken leaf);
      by_index_2 = λ leaf. s.ensures.out_after ∙ squeeze-written a.strength.rate a.strength.chaining a.node.now leaf a.at c.args.strength.bounds.0 c.args.strength.bounds.1 h.node_fits a.out.now (taken leaf);
    }
