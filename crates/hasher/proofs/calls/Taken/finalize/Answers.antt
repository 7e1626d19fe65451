use mathlib.Core.Path.{ap, sym, ◌∙◌}
use Prim.Native.Nat.{zero-le}
use Rattle.sponge.specs.Transcript.{Call.finalize}
use Rattle.sponge.proofs.Valid.{fits-valid}
use Rattle.hasher.specs.Model.{numbers, run_with, answered}
use Rattle.hasher.specs.declared.Run.{Run}
use Rattle.hasher.specs.declared.Moved.{Moved}
use Rattle.hasher.proofs.Cases.{fits, status_5, finalize_3, finalize_d, answer-refused, answer_other, finalize-answer}
use Rattle.hasher.proofs.calls.Taken.finalize.Goals as goal

pub returns-then-not-is_reachable : goal.returns-then-not-is_reachable
returns-then-not-is_reachable c =
    let a = c.args in
    let f = numbers a.self.rate a.self.rounds a.self.limit in
    let r : Run = run_with a.lanes.now a.at in
    let e = status_5 f r (finalize (record { byte = a.last; status = a.refusal })) (sym c.is_reachable.ensures ∙ c.if-not-is_reachable.true) in
    ap (λ (m : Moved). answered m a.lanes.now) c.refused.ensures ∙ answer-refused f r (finalize (record { byte = a.last; status = a.refusal })) 4 e

pub returns-then-at-ne-ABSORBING : goal.returns-then-at-ne-ABSORBING
returns-then-at-ne-ABSORBING c =
    let a = c.args in
    let f = numbers a.self.rate a.self.rounds a.self.limit in
    let r : Run = run_with a.lanes.now a.at in
    let e = finalize_3 f r (sym c.is_reachable.ensures ∙ c.if-not-is_reachable.false) (record { byte = a.last; status = a.refusal }) c.if-at-ne-ABSORBING.true in
    ap (λ (m : Moved). answered m a.lanes.now) c.refused-then-at-ne-ABSORBING.ensures ∙ answer-refused f r (finalize (record { byte = a.last; status = a.refusal })) 2 e

pub returns-then-refusal-ne-DONE : goal.returns-then-refusal-ne-DONE
returns-then-refusal-ne-DONE c =
    let a = c.args in
    let f = numbers a.self.rate a.self.rounds a.self.limit in
    let r : Run = run_with a.lanes.now a.at in
    let e = finalize_d f r (sym c.is_reachable.ensures ∙ c.if-not-is_reachable.false) (record { byte = a.last; status = a.refusal }) c.if-at-ne-ABSORBING.false in
    ap (λ (m : Moved). answered m a.lanes.now) c.refused-then-refusal-ne-DONE.ensures ∙ answer_other f r (finalize (record { byte = a.last; status = a.refusal })) a.refusal c.if-refusal-ne-DONE.true e

pub closed_count-count-requires : goal.closed_count-count-requires
closed_count-count-requires c =
    let a = c.args in
    let f = numbers a.self.rate a.self.rounds a.self.limit in
    let fit = fits f (run_with a.lanes.now a.at) a.self.taken.0 (sym c.is_reachable.ensures ∙ c.if-not-is_reachable.false) in
    (fit.1, zero-le)

pub returns : goal.returns
returns c =
    let a = c.args in
    let f = numbers a.self.rate a.self.rounds a.self.limit in
    let fit = fits f (run_with a.lanes.now a.at) a.self.taken.0 (sym c.is_reachable.ensures ∙ c.if-not-is_reachable.false) in
    let ok = fits-valid a.self.rounds a.self.rate a.at.position a.self.taken.2 fit.0 a.self.taken.0 a.self.taken.1 in
    let r : Run = run_with a.lanes.now a.at in
    let e = finalize_d f r (sym c.is_reachable.ensures ∙ c.if-not-is_reachable.false) (record { byte = a.last; status = a.refusal }) c.if-at-ne-ABSORBING.false ∙ c.if-refusal-ne-DONE.false in
    finalize-answer f a.self.taken.0 r ok (sym c.is_reachable.ensures ∙ c.if-not-is_reachable.false) (record { byte = a.last; status = a.refusal }) (record { status = c.pad-padded.result.status; state = record { value = c.pad-padded.new.lanes; position = c.pad-padded.result.position } }) c.closed_count-count.result c.pad-padded.ensures c.closed_count-count.ensures c.if-at-ne-ABSORBING.false e
