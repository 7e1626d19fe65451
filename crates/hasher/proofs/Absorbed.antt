-- What an absorb that is answered 0 tells, whatever the numbers and the run: the run was open and passed the test of status 5, and its lanes went
-- through the sponge. And which absorbs are answered 0.
-- Assumes nothing.
use mathlib.Core.Path.{◌≡◌, refl, sym, ap, ◌∙◌}
use mathlib.Core.Bool.{true}
use mathlib.Core.List.{List}
use Prim.Native.Nat.{ℕ, zero, suc, ◌+◌, ◌≤◌}
use native.Mathlib.Omega.{arith}
use lib.ListN.{length}
use borrow.Author.Tests.{eq-eqb, le-leb}
use Rattle.sponge.specs.Waiting.{position_after}
use Rattle.sponge.specs.Published.{xor_byte}
use Rattle.sponge.specs.Count.{Counted, open_count}
use Rattle.sponge.specs.Model.{absorb_bytes, call_status}
use Rattle.sponge.specs.Transcript.{Call, Call.absorb}
use Rattle.sponge.specs.Runs as runs
use Rattle.sponge.specs.Runs.{perform}
use Rattle.sponge.proofs.Count.{steps-counted}
use Rattle.sponge.proofs.Done.{AbsorbDone, absorb_done, left_done}
use Rattle.hasher.specs.Function.{message_limit, Function, permutation, rules}
use Rattle.hasher.specs.Model.{reachable, machine, seen, held, perform_of, answer_of, answer}
use Rattle.hasher.specs.declared.Run.{Run}
use Rattle.hasher.specs.declared.Answer.{Answer}
use Rattle.hasher.proofs.Laws.{shape}
use Rattle.hasher.proofs.Guards.{answer-refused, answer_is, answer_same}
use Rattle.hasher.proofs.Cases.{open_due_lem, absorb_0, answer_done}
use Rattle.hasher.proofs.Claims.{replied}

module _ {A : Type 0} (F : Function A) (r : Run) where
  -- the numbers are taken
  taken : (c : Call A) → (answer_of F r c).status ≡ 0 → call_status F.rounds F.rate 0 ≡ 0
  taken c e = by (call_status F.rounds F.rate 0) refl
    where
      by : (n : ℕ) → call_status F.rounds F.rate 0 ≡ n → call_status F.rounds F.rate 0 ≡ 0
      by zero g = g
      by (suc n) g = absurd (let z : suc n ≡ 0 = ap (λ (x : Answer). x.status) (answer-refused F r c (suc n) (λ z. omega arith) (sym g)) ∙ e in omega arith)

  module _ (p : List ℕ) (e : (answer F r (absorb p)).status ≡ 0) where
    performed : answer F r (absorb p) ≡ replied (perform (rules F) (machine F) (seen r) (absorb p))
    unfolding perform_of
    performed = answer_same F r (absorb p) ∙ sym (answer_is F (taken (absorb p) (sym (ap (λ (x : Answer). x.status) (answer_same F r (absorb p))) ∙ e)) r (absorb p))

    performed_done : (perform (rules F) (machine F) (seen r) (absorb p)).status ≡ 0
    performed_done = sym (ap (λ (x : Answer). x.status) performed) ∙ e

    done : AbsorbDone (rules F) (machine F) (seen r) p
    done = absorb_done (rules F) (machine F) (seen r) p performed_done

    pub test_passed : reachable F.rate F.output_limit r.position r.phase r.absorbed r.squeezed r.permutations ≡ true
    unfolding machine
    test_passed = done.reached

    pub phase_open : r.phase ≡ 0
    phase_open = done.absorbing

    pub position-told : r.position ≡ position_after F.rate r.absorbed
    position-told = (open_due_lem F r test_passed phase_open).0

    pub permutations-told : r.permutations ≡ open_count F.rate r.absorbed
    permutations-told = (open_due_lem F r test_passed phase_open).1

    pub none-squeezed : r.squeezed ≡ 0
    unfolding machine rules
    none-squeezed = let l = rw phase_open at (shape F (seen r) test_passed).squeezed-fits in omega arith

    pub lanes_left : (answer F r (absorb p)).run.lanes ≡ (absorb_bytes (permutation F) F.rate (record { value = r.lanes; position = r.position }) p).value
    unfolding machine
    lanes_left =
        ap (λ (x : Answer). x.run.lanes) performed
        ∙ ap (λ (q : runs.Run Counted). (held q).lanes) (left_done (rules F) (machine F) (seen r) (absorb p) performed_done)
        ∙ ap (λ (t : Counted). t.value.0) (steps-counted (permutation F) xor_byte F.rate (record { value = r.lanes; position = r.position }) r.permutations p)

  -- an open run of these totals is answered 0 where its total stays within the limit
  pub absorb-taken : (p : List ℕ) → call_status F.rounds F.rate 0 ≡ 0 → r.phase ≡ 0 → r.squeezed ≡ 0 → r.position ≡ position_after F.rate r.absorbed
      → r.permutations ≡ open_count F.rate r.absorbed → r.absorbed + length p ≤ message_limit → (answer F r (absorb p)).status ≡ 0
  unfolding reachable
  absorb-taken p t h z e f l =
      let test : reachable F.rate F.output_limit r.position r.phase r.absorbed r.squeezed r.permutations ≡ true =
      rw (le-leb r.absorbed message_limit (omega arith), eq-eqb r.phase 0 h, eq-eqb r.squeezed 0 z, eq-eqb r.position (position_after F.rate r.absorbed) e, eq-eqb r.permutations (open_count F.rate r.absorbed) f) in
      ap (λ (x : Answer). x.status) (answer_same F r (absorb p) ∙ sym (answer_is F t r (absorb p)) ∙ sym (answer_done F r (absorb p) (absorb_0 F r test p h l)))
