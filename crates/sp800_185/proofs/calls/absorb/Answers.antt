use mathlib.Core.Path.{refl, sym, ◌∙◌}
use Prim.Native.Nat.{◌+◌, ◌-◌}
use native.Mathlib.Omega.{arith}
use Rattle.sponge.specs.Transcript.{Call.absorb}
use Rattle.sponge.proofs.Valid.{fits-valid}
use Rattle.sp800_185.specs.Model.{given}
use Rattle.sp800_185.proofs.Cases.{opened, open_place, status_5, absorb_3, absorb_2, absorb_0, answer-refused, absorb-answer}
use Rattle.sp800_185.proofs.calls.absorb.Goals as goal

pub returns-then-not-is_reachable : goal.returns-then-not-is_reachable
returns-then-not-is_reachable c =
    let a = c.args in
    let e = status_5 (given a.numbers) a.keyed (absorb a.piece.now) (sym c.is_reachable.ensures ∙ c.if-not-is_reachable.true) in
    c.refused.ensures ∙ answer-refused (given a.numbers) a.keyed (absorb a.piece.now) 4 e

pub returns-then-run-ne-ABSORBING : goal.returns-then-run-ne-ABSORBING
returns-then-run-ne-ABSORBING c =
    let was = sym c.is_reachable.ensures ∙ c.if-not-is_reachable.false in
    let a = c.args in
    let e = absorb_3 (given a.numbers) a.keyed was a.piece.now c.if-run-ne-ABSORBING.true in
    c.refused-then-run-ne-ABSORBING.ensures ∙ answer-refused (given a.numbers) a.keyed (absorb a.piece.now) 2 e

pub overflow_add-total : goal.overflow_add-total
overflow_add-total c =
    let was = sym c.is_reachable.ensures ∙ c.if-not-is_reachable.false in
    let a = c.args in
    omega (arith, (opened (given a.numbers) a.keyed was c.if-run-ne-ABSORBING.false).absorbed-fits)

pub returns-then-total-gt-MESSAGE_LIMIT : goal.returns-then-total-gt-MESSAGE_LIMIT
returns-then-total-gt-MESSAGE_LIMIT c =
    let was = sym c.is_reachable.ensures ∙ c.if-not-is_reachable.false in
    let a = c.args in
    let e = absorb_2 (given a.numbers) a.keyed was a.piece.now c.if-run-ne-ABSORBING.false (omega (arith, c.if-total-gt-MESSAGE_LIMIT.true)) in
    c.refused-then-total-gt-MESSAGE_LIMIT.ensures ∙ answer-refused (given a.numbers) a.keyed (absorb a.piece.now) 1 e

pub open_own-requires : goal.open_own-requires
open_own-requires c =
    let was = sym c.is_reachable.ensures ∙ c.if-not-is_reachable.false in
    let a = c.args in ((opened (given a.numbers) a.keyed was c.if-run-ne-ABSORBING.false).absorbed-fits)

pub overflow_sub-before : goal.overflow_sub-before
overflow_sub-before c =
    let was = sym c.is_reachable.ensures ∙ c.if-not-is_reachable.false in
    let a = c.args in
    omega (arith, (opened (given a.numbers) a.keyed was c.if-run-ne-ABSORBING.false).own-fits, c.open_own.ensures.0, a.numbers.usable.2)

pub open_own-requires-2 : goal.open_own-requires-2
open_own-requires-2 c = omega (arith, c.if-total-gt-MESSAGE_LIMIT.false)

pub overflow_add-count : goal.overflow_add-count
overflow_add-count c =
    let was = sym c.is_reachable.ensures ∙ c.if-not-is_reachable.false in
    let a = c.args in
    let o = opened (given a.numbers) a.keyed was c.if-run-ne-ABSORBING.false in
    omega (arith, o.few, o.absorbed-fits, c.open_own.ensures.0, c.open_own.ensures.1, c.open_own-2.ensures.1, c.if-total-gt-MESSAGE_LIMIT.false, a.numbers.usable.4)

pub returns : goal.returns
returns c =
    let was = sym c.is_reachable.ensures ∙ c.if-not-is_reachable.false in
    let a = c.args in
    let s = a.numbers.usable in
    let past = was in
    let phase = c.if-run-ne-ABSORBING.false in
    let d = c.absorb-taken in
    let ok = fits-valid 24 a.numbers.rate a.keyed.run.position refl (open_place (given a.numbers) a.keyed s.0 past phase) s.0 s.1 in
    let e = absorb_0 (given a.numbers) a.keyed past a.piece.now phase c.if-total-gt-MESSAGE_LIMIT.false in
    c.answered.ensures
    ∙ absorb-answer (given a.numbers) a.keyed s.0 s.2 past a.piece.now (record { status = d.result.status; state = record { value = d.new.lanes; position = d.result.position } }) _ ok d.ensures
    (λ i. a.keyed.run.permutations - c.open_own.ensures.0 i + c.open_own-2.ensures.0 i) phase e
