-- What an absorb that is answered 0 tells of a run after a start: it was open and kept no length, its position is the one that the total tells, and
-- its lanes went through the sponge.
-- Assumes nothing.
use mathlib.Core.Path.{◌≡◌, sym, ap, ◌∙◌}
use mathlib.Core.Bool.{true, cond}
use mathlib.Core.List.{List, []}
use Prim.Native.Nat.{ℕ, suc, ◌+◌, ◌≤◌}
use native.Mathlib.Omega.{arith}
use lib.Dec.{eqb}
use Rattle.keccak.specs.Permutation.{last_rounds}
use Rattle.sponge.specs.Waiting.{position_after}
use Rattle.sponge.specs.Published.{xor_byte}
use Rattle.sponge.specs.Count.{Counted}
use Rattle.sponge.specs.Model.{absorb_bytes}
use Rattle.sponge.specs.Transcript.{Call.absorb}
use Rattle.sponge.specs.Runs as runs
use Rattle.sponge.proofs.Count.{steps-counted}
use Rattle.sponge.proofs.Done.{AbsorbDone, absorb_done, left_done}
use Rattle.sponge.proofs.Reachable.{Shape}
use Rattle.sp800_185.specs.Function.{Function, rules}
use Rattle.sp800_185.specs.Model.{State, reachable, machine, seen, held, performed, answer}
use Rattle.sp800_185.specs.declared.Keyed.{Keyed}
use Rattle.sp800_185.proofs.Lengths.{Meets}
use Rattle.sp800_185.proofs.Laws.{positions, first_is, third_is, due, Limited, shape}
use Rattle.sp800_185.proofs.Ranges.{extra, some}
use Rattle.sp800_185.proofs.Claims.{status_is, keyed_is}

module _ {A : Type 0} (F : Function A) (E : Meets F) (one : 1 ≤ F.least) (x : Keyed) (p : List ℕ) (e : (answer F x (absorb p)).status ≡ 0) where
  performed_done : (performed F x (absorb p)).status ≡ 0
  performed_done = sym (status_is F E x (absorb p)) ∙ e

  done : AbsorbDone (rules F []) (machine F [] F.least F.most) (seen x) p
  done = absorb_done (rules F []) (machine F [] F.least F.most) (seen x) p performed_done

  test_passed : reachable F F.least F.most x.run.position x.length x.run.phase x.run.absorbed x.run.squeezed x.run.permutations ≡ true
  unfolding machine
  test_passed = done.reached

  pub phase_open : x.run.phase ≡ 0
  phase_open = done.absorbing

  -- the blocks before the last of the prefix
  before : ℕ
  before = extra F x.run.position x.length x.run.absorbed x.run.squeezed x.run.permutations x.run.phase

  shaped : Shape (rules F []) (machine F [] (suc before) (suc before)) positions (due F before) (Limited F) (seen x)
  unfolding machine before
  shaped = shape F [] before (seen x) (some F x.run.position x.length x.run.absorbed x.run.squeezed x.run.permutations F.least F.most x.run.phase one test_passed).exact

  at_open : (n k : ℕ) → cond (eqb x.run.phase 0) n k ≡ n
  at_open n k = ap (λ (h : ℕ). cond (eqb h 0) n k) phase_open

  pub position-told : x.run.position ≡ position_after F.rate (F.rate + x.run.absorbed)
  position-told = first_is _ _ _ _ _ _ shaped.positions_due ∙ at_open _ _

  pub none_kept : x.length ≡ 0
  none_kept = third_is _ _ _ _ _ _ shaped.positions_due ∙ at_open _ _

  pub none-squeezed : x.run.squeezed ≡ 0
  unfolding machine rules
  none-squeezed = let l = rw phase_open at shaped.squeezed-fits in omega arith

  pub lanes_left : (answer F x (absorb p)).keyed.run.lanes ≡ (absorb_bytes (last_rounds 24) F.rate (record { value = x.run.lanes; position = x.run.position }) p).value
  unfolding machine
  lanes_left =
      ap (λ (y : Keyed). y.run.lanes) (keyed_is F E x (absorb p))
      ∙ ap (λ (r : runs.Run State). (held r).run.lanes) (left_done (rules F []) (machine F [] F.least F.most) (seen x) (absorb p) performed_done)
      ∙ ap (λ (t : Counted). t.value.0) (steps-counted (last_rounds 24) xor_byte F.rate (record { value = x.run.lanes; position = x.run.position }) x.run.permutations p)
