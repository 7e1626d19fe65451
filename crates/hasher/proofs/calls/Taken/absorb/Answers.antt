use mathlib.Core.Path.{ap, sym, ◌∙◌}
use native.Mathlib.Omega.{arith}
use Rattle.sponge.specs.Transcript.{Call.absorb}
use Rattle.sponge.proofs.Valid.{fits-valid}
use Rattle.hasher.specs.Model.{numbers, run_with, answered}
use Rattle.hasher.specs.declared.Run.{Run}
use Rattle.hasher.specs.declared.Moved.{Moved}
use Rattle.hasher.proofs.Cases.{fits, open_due_lem, status_5, absorb_3, absorb_2, absorb_0, answer-refused, absorb-answer}
use Rattle.hasher.proofs.calls.Taken.absorb.Goals as goal

pub returns-then-not-is_reachable : goal.returns-then-not-is_reachable
returns-then-not-is_reachable c =
    let a = c.args in
    let f = numbers a.self.rate a.self.rounds a.self.limit in
    let r : Run = run_with a.lanes.now a.at in
    let e = status_5 f r (absorb a.piece.now) (sym c.is_reachable.ensures ∙ c.if-not-is_reachable.true) in
    ap (λ (m : Moved). answered m a.lanes.now) c.refused.ensures ∙ answer-refused f r (absorb a.piece.now) 4 e

pub returns-then-at-ne-ABSORBING : goal.returns-then-at-ne-ABSORBING
returns-then-at-ne-ABSORBING c =
    let a = c.args in
    let f = numbers a.self.rate a.self.rounds a.self.limit in
    let r : Run = run_with a.lanes.now a.at in
    let e = absorb_3 f r (sym c.is_reachable.ensures ∙ c.if-not-is_reachable.false) a.piece.now c.if-at-ne-ABSORBING.true in
    ap (λ (m : Moved). answered m a.lanes.now) c.refused-then-at-ne-ABSORBING.ensures ∙ answer-refused f r (absorb a.piece.now) 2 e

pub overflow_add-total : goal.overflow_add-total
overflow_add-total c =
    let a = c.args in
    let f = numbers a.self.rate a.self.rounds a.self.limit in
    let fit = fits f (run_with a.lanes.now a.at) a.self.taken.0 (sym c.is_reachable.ensures ∙ c.if-not-is_reachable.false) in
    omega (arith, fit)

pub returns-then-total-gt-MESSAGE_LIMIT : goal.returns-then-total-gt-MESSAGE_LIMIT
returns-then-total-gt-MESSAGE_LIMIT c =
    let a = c.args in
    let f = numbers a.self.rate a.self.rounds a.self.limit in
    let r : Run = run_with a.lanes.now a.at in
    let e = absorb_2 f r (sym c.is_reachable.ensures ∙ c.if-not-is_reachable.false) a.piece.now c.if-at-ne-ABSORBING.false c.if-total-gt-MESSAGE_LIMIT.true in
    ap (λ (m : Moved). answered m a.lanes.now) c.refused-then-total-gt-MESSAGE_LIMIT.ensures ∙ answer-refused f r (absorb a.piece.now) 1 e

pub count_after-count-requires : goal.count_after-count-requires
count_after-count-requires c =
    let a = c.args in
    let f = numbers a.self.rate a.self.rounds a.self.limit in
    let d = open_due_lem f (run_with a.lanes.now a.at) (sym c.is_reachable.ensures ∙ c.if-not-is_reachable.false) c.if-at-ne-ABSORBING.false in
    (d.0, d.1, omega arith)

pub returns : goal.returns
returns c =
    let a = c.args in
    let f = numbers a.self.rate a.self.rounds a.self.limit in
    let fit = fits f (run_with a.lanes.now a.at) a.self.taken.0 (sym c.is_reachable.ensures ∙ c.if-not-is_reachable.false) in
    let ok = fits-valid a.self.rounds a.self.rate a.at.position a.self.taken.2 fit.0 a.self.taken.0 a.self.taken.1 in
    let r : Run = run_with a.lanes.now a.at in
    let e = absorb_0 f r (sym c.is_reachable.ensures ∙ c.if-not-is_reachable.false) a.piece.now c.if-at-ne-ABSORBING.false c.if-total-gt-MESSAGE_LIMIT.false in
    absorb-answer f a.self.taken.0 r ok (sym c.is_reachable.ensures ∙ c.if-not-is_reachable.false) a.piece.now (record { status = c.absorb-taken.result.status; state = record { value = c.absorb-taken.new.lanes; position = c.absorb-taken.result.position } }) c.count_after-count.result c.absorb-taken.ensures c.count_after-count.ensures c.if-at-ne-ABSORBING.false e
