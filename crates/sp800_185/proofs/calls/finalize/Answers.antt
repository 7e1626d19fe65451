use mathlib.Core.Path.{refl, ap, sym, ◌∙◌, subst}
use Prim.Native.Nat.{ℕ, ◌+◌, ◌-◌, ◌≤◌, zero-le}
use native.Mathlib.Omega.{arith}
use Rattle.keccak.specs.Permutation.{last_rounds}
use Rattle.sponge.specs.Model.{Sponge, Outcome, absorb_bytes}
use Rattle.sponge.specs.Transcript.{Call.finalize}
use Rattle.sponge.proofs.Valid.{fits-valid}
use Rattle.hasher.specs.Function.{long_output}
use Rattle.sp800_185.specs.Function.{ending}
use Rattle.sp800_185.specs.Model.{given, closed_own}
use Rattle.sp800_185.proofs.Lengths.{given_few}
use Rattle.sp800_185.proofs.Cases.{opened, open_place, status_5, finalize_3, finalize_a, answer-refused, answer_other, from, finalize-answer}
use Rattle.sp800_185.proofs.calls.finalize.Goals as goal

pub returns-then-not-is_reachable : goal.returns-then-not-is_reachable
returns-then-not-is_reachable c =
    let a = c.args in
    let e = status_5 (given a.numbers) a.keyed (finalize a.length) (sym c.is_reachable.ensures ∙ c.if-not-is_reachable.true) in
    c.refused.ensures ∙ answer-refused (given a.numbers) a.keyed (finalize a.length) 4 e

pub returns-then-run-ne-ABSORBING : goal.returns-then-run-ne-ABSORBING
returns-then-run-ne-ABSORBING c =
    let was = sym c.is_reachable.ensures ∙ c.if-not-is_reachable.false in
    let a = c.args in
    let e = finalize_3 (given a.numbers) a.keyed was a.length c.if-run-ne-ABSORBING.true in
    c.refused-then-run-ne-ABSORBING.ensures ∙ answer-refused (given a.numbers) a.keyed (finalize a.length) 2 e

pub returns-then-refusal-ne-DONE : goal.returns-then-refusal-ne-DONE
returns-then-refusal-ne-DONE c =
    let was = sym c.is_reachable.ensures ∙ c.if-not-is_reachable.false in
    let a = c.args in
    let n = c.close_status-refusal in
    let e = finalize_a (given a.numbers) a.keyed was a.length c.if-run-ne-ABSORBING.false in
    c.refused-then-refusal-ne-DONE.ensures ∙ answer_other (given a.numbers) a.keyed (finalize a.length) n.result c.if-refusal-ne-DONE.true (e ∙ sym n.ensures)

pub open_own-requires : goal.open_own-requires
open_own-requires c =
    let was = sym c.is_reachable.ensures ∙ c.if-not-is_reachable.false in
    let a = c.args in ((opened (given a.numbers) a.keyed was c.if-run-ne-ABSORBING.false).absorbed-fits)

pub overflow_sub-before : goal.overflow_sub-before
overflow_sub-before c =
    let was = sym c.is_reachable.ensures ∙ c.if-not-is_reachable.false in
    let a = c.args in
    omega (arith, (opened (given a.numbers) a.keyed was c.if-run-ne-ABSORBING.false).own-fits, c.open_own.ensures.0, a.numbers.usable.2)

-- the length that is said is short
pub closed_own-requires : goal.closed_own-requires
closed_own-requires c =
    let was = sym c.is_reachable.ensures ∙ c.if-not-is_reachable.false in
    let a = c.args in
    let few = subst (λ (m : ℕ). m ≤ long_output) (sym c.said-kept.ensures) (given_few a.numbers a.length (sym c.close_status-refusal.ensures ∙ c.if-refusal-ne-DONE.false)) in
    (few, (opened (given a.numbers) a.keyed was c.if-run-ne-ABSORBING.false).absorbed-fits, zero-le)

pub overflow_add-count : goal.overflow_add-count
overflow_add-count c =
    let was = sym c.is_reachable.ensures ∙ c.if-not-is_reachable.false in
    let a = c.args in
    let o = opened (given a.numbers) a.keyed was c.if-run-ne-ABSORBING.false in
    omega (arith, o.few, o.absorbed-fits, c.open_own.ensures.0, c.open_own.ensures.1, c.closed_own.ensures.1, a.numbers.usable.4)

pub absorb_ending-position-requires : goal.absorb_ending-position-requires
absorb_ending-position-requires c =
    let was = sym c.is_reachable.ensures ∙ c.if-not-is_reachable.false in
    let a = c.args in
    let few = subst (λ (m : ℕ). m ≤ long_output) (sym c.said-kept.ensures) (given_few a.numbers a.length (sym c.close_status-refusal.ensures ∙ c.if-refusal-ne-DONE.false)) in
    (open_place (given a.numbers) a.keyed a.numbers.usable.0 was c.if-run-ne-ABSORBING.false, few)

pub returns : goal.returns
returns c =
    let was = sym c.is_reachable.ensures ∙ c.if-not-is_reachable.false in
    let a = c.args in
    let s = a.numbers.usable in
    let past = was in
    let phase = c.if-run-ne-ABSORBING.false in
    let l = c.said-kept in
    let b = c.absorb_ending-position in
    let d = c.pad-padded in
    let t : Sponge = record { value = b.new.lanes; position = b.result } in
    let o : Outcome = record { status = d.result.status; state = record { value = d.new.lanes; position = d.result.position } } in
    let n : ℕ = a.keyed.run.permutations - c.open_own.result + c.closed_own.result in
    let ok = fits-valid 24 a.numbers.rate b.result refl b.ensures.upper_bound s.0 s.1 in
    let e = finalize_a (given a.numbers) a.keyed past a.length phase ∙ sym c.close_status-refusal.ensures ∙ c.if-refusal-ne-DONE.false in
    c.answered.ensures
    ∙ ap (λ (m : ℕ). from (given a.numbers) a.keyed s.0 s.2 past 1 a.keyed.run.absorbed a.keyed.run.squeezed m n o) l.ensures
    ∙ finalize-answer (given a.numbers) a.keyed s.0 s.2 past a.length t o n
    (b.ensures.result_after ∙ ap (λ (m : ℕ). absorb_bytes (last_rounds 24) a.numbers.rate (record { value = a.keyed.run.lanes; position = a.keyed.run.position }) (ending (given a.numbers) m)) l.ensures) ok d.ensures
    (λ i. a.keyed.run.permutations - c.open_own.ensures.0 i + (c.closed_own.ensures.0 ∙ ap (λ (m : ℕ). closed_own (given a.numbers) m a.keyed.run.absorbed 0) l.ensures) i) phase e
