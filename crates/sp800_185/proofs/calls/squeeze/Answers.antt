use mathlib.Core.Path.{refl, sym, ◌∙◌, subst}
use Prim.Native.Nat.{ℕ, ◌+◌, ◌-◌, ◌≤◌}
use native.Mathlib.Omega.{arith}
use lib.ListN.{length}
use Rattle.sponge.specs.Transcript.{Call.squeeze}
use Rattle.sponge.proofs.Valid.{fits-valid}
use Rattle.sp800_185.specs.Model.{given}
use Rattle.sp800_185.proofs.Cases.{closed, closed_place, reads, status_5, squeeze_3, squeeze_6, squeeze_0, answer-refused, output-refused, squeeze-answer, squeeze-written}
use Rattle.sp800_185.proofs.calls.squeeze.Goals as goal

pub returns-then-not-is_reachable : goal.returns-then-not-is_reachable
returns-then-not-is_reachable c =
    let a = c.args in
    let e = status_5 (given a.numbers) a.keyed (squeeze (length a.out.now)) (sym c.is_reachable.ensures ∙ c.if-not-is_reachable.true) in record {
      value = c.refused.ensures ∙ answer-refused (given a.numbers) a.keyed (squeeze (length a.out.now)) 4 e;
      out_after = output-refused (given a.numbers) a.keyed a.out.now 4 e;
    }

pub returns-then-run-ne-SQUEEZING : goal.returns-then-run-ne-SQUEEZING
returns-then-run-ne-SQUEEZING c =
    let was = sym c.is_reachable.ensures ∙ c.if-not-is_reachable.false in
    let a = c.args in
    let e = squeeze_3 (given a.numbers) a.keyed was (length a.out.now) c.if-run-ne-SQUEEZING.true in record {
      value = c.refused-then-run-ne-SQUEEZING.ensures ∙ answer-refused (given a.numbers) a.keyed (squeeze (length a.out.now)) 2 e;
      out_after = output-refused (given a.numbers) a.keyed a.out.now 2 e;
    }

pub overflow_sub-read_limit : goal.overflow_sub-read_limit
overflow_sub-read_limit c =
    let was = sym c.is_reachable.ensures ∙ c.if-not-is_reachable.false in
    let a = c.args in subst (λ (m : ℕ). a.keyed.run.squeezed ≤ m) (sym c.read_limit.ensures) (closed (given a.numbers) a.keyed was c.if-run-ne-SQUEEZING.false).squeezed-fits

pub returns-then-read_limit-run : goal.returns-then-read_limit-run
returns-then-read_limit-run c =
    let was = sym c.is_reachable.ensures ∙ c.if-not-is_reachable.false in
    let a = c.args in
    let g = (closed (given a.numbers) a.keyed was c.if-run-ne-SQUEEZING.false).squeezed-fits in
    let z = c.read_limit.ensures in
    let e = squeeze_6 (given a.numbers) a.keyed was (length a.out.now) c.if-run-ne-SQUEEZING.false (omega (arith, c.if-read_limit-run.true, z, g)) in record {
      value = c.refused-then-read_limit-run.ensures ∙ answer-refused (given a.numbers) a.keyed (squeeze (length a.out.now)) 5 e;
      out_after = output-refused (given a.numbers) a.keyed a.out.now 5 e;
    }

pub overflow_add-total : goal.overflow_add-total
overflow_add-total c =
    let was = sym c.is_reachable.ensures ∙ c.if-not-is_reachable.false in
    let a = c.args in
    let t = reads (given a.numbers) a.keyed was c.if-run-ne-SQUEEZING.false c.read_limit.result (length a.out.now) c.read_limit.ensures c.if-read_limit-run.false in omega (arith, t.0, t.2)

pub closed_own-requires : goal.closed_own-requires
closed_own-requires c =
    let was = sym c.is_reachable.ensures ∙ c.if-not-is_reachable.false in
    let a = c.args in
    let t = reads (given a.numbers) a.keyed was c.if-run-ne-SQUEEZING.false c.read_limit.result (length a.out.now) c.read_limit.ensures c.if-read_limit-run.false in
    (t.1, (closed (given a.numbers) a.keyed was c.if-run-ne-SQUEEZING.false).absorbed-fits, omega (arith, t.0, t.2))

pub overflow_sub-before : goal.overflow_sub-before
overflow_sub-before c =
    let was = sym c.is_reachable.ensures ∙ c.if-not-is_reachable.false in
    let a = c.args in
    omega (arith, (closed (given a.numbers) a.keyed was c.if-run-ne-SQUEEZING.false).own-fits, c.closed_own.ensures.0, a.numbers.usable.2)

pub closed_own-requires-2 : goal.closed_own-requires-2
closed_own-requires-2 c =
    let was = sym c.is_reachable.ensures ∙ c.if-not-is_reachable.false in
    let a = c.args in
    let t = reads (given a.numbers) a.keyed was c.if-run-ne-SQUEEZING.false c.read_limit.result (length a.out.now) c.read_limit.ensures c.if-read_limit-run.false in
    (t.1, (closed (given a.numbers) a.keyed was c.if-run-ne-SQUEEZING.false).absorbed-fits, omega (arith, t.0, t.2))

pub overflow_add-count : goal.overflow_add-count
overflow_add-count c =
    let was = sym c.is_reachable.ensures ∙ c.if-not-is_reachable.false in
    let a = c.args in
    let t = reads (given a.numbers) a.keyed was c.if-run-ne-SQUEEZING.false c.read_limit.result (length a.out.now) c.read_limit.ensures c.if-read_limit-run.false in
    let o = closed (given a.numbers) a.keyed was c.if-run-ne-SQUEEZING.false in
    omega (arith, o.few, o.absorbed-fits, c.closed_own.ensures.0, c.closed_own.ensures.1, c.closed_own-2.ensures.1, t.0, t.2, a.numbers.usable.4)

pub returns : goal.returns
returns c =
    let was = sym c.is_reachable.ensures ∙ c.if-not-is_reachable.false in
    let a = c.args in
    let s = a.numbers.usable in
    let past = was in
    let phase = c.if-run-ne-SQUEEZING.false in
    let q = c.squeeze-given in
    let ok = fits-valid 24 a.numbers.rate a.keyed.run.position refl (closed_place (given a.numbers) a.keyed s.0 past phase) s.0 s.1 in
    let e = squeeze_0 (given a.numbers) a.keyed past (length a.out.now) phase (reads (given a.numbers) a.keyed past phase c.read_limit.result (length a.out.now) c.read_limit.ensures c.if-read_limit-run.false).0 in record {
      value = c.answered.ensures
          ∙ squeeze-answer (given a.numbers) a.keyed s.0 s.2 past (length a.out.now) (record { status = q.result.status; state = record { value = q.new.lanes; position = q.result.position } }) _ ok q.ensures.position_after
          (λ i. a.keyed.run.permutations - c.closed_own.ensures.0 i + c.closed_own-2.ensures.0 i) phase e;
      out_after = q.ensures.out_after ∙ squeeze-written (given a.numbers) a.keyed s.0 s.2 past a.out.now ok e;
    }
