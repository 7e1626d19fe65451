use mathlib.Core.Path.{ap, sym, ◌∙◌}
use native.Mathlib.Omega.{arith}
use lib.ListN.{length}
use Rattle.sponge.specs.Transcript.{Call.squeeze}
use Rattle.sponge.proofs.Valid.{fits-valid}
use Rattle.hasher.specs.Model.{numbers, run_with, answered}
use Rattle.hasher.specs.declared.Run.{Run}
use Rattle.hasher.specs.declared.Moved.{Moved}
use Rattle.hasher.proofs.Cases.{fits, status_5, squeeze_3, squeeze_6, squeeze_0, answer-refused, output-refused, squeeze-answer, squeeze-written}
use Rattle.hasher.proofs.calls.Taken.squeeze.Goals as goal

pub returns-then-not-is_reachable : goal.returns-then-not-is_reachable
returns-then-not-is_reachable c =
    let a = c.args in
    let f = numbers a.self.rate a.self.rounds a.self.limit in
    let r : Run = run_with a.lanes.now a.at in
    let e = status_5 f r (squeeze (length a.out.now)) (sym c.is_reachable.ensures ∙ c.if-not-is_reachable.true) in record {
      lanes_after = ap (λ (m : Moved). answered m a.lanes.now) c.refused.ensures ∙ answer-refused f r (squeeze (length a.out.now)) 4 e;
      out_after = output-refused f r a.out.now 4 e;
    }

pub returns-then-at-ne-SQUEEZING : goal.returns-then-at-ne-SQUEEZING
returns-then-at-ne-SQUEEZING c =
    let a = c.args in
    let f = numbers a.self.rate a.self.rounds a.self.limit in
    let r : Run = run_with a.lanes.now a.at in
    let e = squeeze_3 f r (sym c.is_reachable.ensures ∙ c.if-not-is_reachable.false) (length a.out.now) c.if-at-ne-SQUEEZING.true in record {
      lanes_after = ap (λ (m : Moved). answered m a.lanes.now) c.refused-then-at-ne-SQUEEZING.ensures ∙ answer-refused f r (squeeze (length a.out.now)) 2 e;
      out_after = output-refused f r a.out.now 2 e;
    }

pub overflow_sub-self : goal.overflow_sub-self
overflow_sub-self c =
    let a = c.args in
    let f = numbers a.self.rate a.self.rounds a.self.limit in
    let fit = fits f (run_with a.lanes.now a.at) a.self.taken.0 (sym c.is_reachable.ensures ∙ c.if-not-is_reachable.false) in
    omega (arith, fit)

pub returns-then-self-at : goal.returns-then-self-at
returns-then-self-at c =
    let a = c.args in
    let f = numbers a.self.rate a.self.rounds a.self.limit in
    let fit = fits f (run_with a.lanes.now a.at) a.self.taken.0 (sym c.is_reachable.ensures ∙ c.if-not-is_reachable.false) in
    let r : Run = run_with a.lanes.now a.at in
    let e = squeeze_6 f r (sym c.is_reachable.ensures ∙ c.if-not-is_reachable.false) (length a.out.now) c.if-at-ne-SQUEEZING.false (omega (arith, fit, c.if-self-at.true)) in record {
      lanes_after = ap (λ (m : Moved). answered m a.lanes.now) c.refused-then-self-at.ensures ∙ answer-refused f r (squeeze (length a.out.now)) 5 e;
      out_after = output-refused f r a.out.now 5 e;
    }

pub overflow_add-total : goal.overflow_add-total
overflow_add-total c =
    let a = c.args in
    let f = numbers a.self.rate a.self.rounds a.self.limit in
    let fit = fits f (run_with a.lanes.now a.at) a.self.taken.0 (sym c.is_reachable.ensures ∙ c.if-not-is_reachable.false) in
    omega (arith, fit)

pub closed_count-count-requires : goal.closed_count-count-requires
closed_count-count-requires c =
    let a = c.args in
    let f = numbers a.self.rate a.self.rounds a.self.limit in
    let fit = fits f (run_with a.lanes.now a.at) a.self.taken.0 (sym c.is_reachable.ensures ∙ c.if-not-is_reachable.false) in
    (fit.1, omega (arith, c.if-self-at.false))

pub returns : goal.returns
returns c =
    let a = c.args in
    let f = numbers a.self.rate a.self.rounds a.self.limit in
    let fit = fits f (run_with a.lanes.now a.at) a.self.taken.0 (sym c.is_reachable.ensures ∙ c.if-not-is_reachable.false) in
    let ok = fits-valid a.self.rounds a.self.rate a.at.position a.self.taken.2 fit.0 a.self.taken.0 a.self.taken.1 in
    let q = c.squeeze-given in
    let r : Run = run_with a.lanes.now a.at in
    let phase = c.if-at-ne-SQUEEZING.false in
    let e = squeeze_0 f r (sym c.is_reachable.ensures ∙ c.if-not-is_reachable.false) (length a.out.now) phase (omega (arith, fit, c.if-self-at.false)) in record {
      lanes_after = squeeze-answer f a.self.taken.0 r ok (sym c.is_reachable.ensures ∙ c.if-not-is_reachable.false) (length a.out.now) (record { status = q.result.status; state = record { value = q.new.lanes; position = q.result.position } }) c.closed_count-count.result q.ensures.position_after c.closed_count-count.ensures phase e;
      out_after = q.ensures.out_after ∙ squeeze-written f a.self.taken.0 r ok (sym c.is_reachable.ensures ∙ c.if-not-is_reachable.false) a.out.now e;
    }
