-- The cases of what each call answers, for the proofs of the code. Assumes nothing.
use mathlib.Core.Path.{◌≡◌, refl, sym, ap, ◌∙◌}
use mathlib.Core.Bool.{Bool, true, false, cond}
use mathlib.Core.List.{List}
use Prim.Native.Nat.{ℕ, zero, suc, ◌+◌, ◌-◌, ◌/◌, ◌%◌, ◌≤◌, ◌<◌, zero-le}
use native.Mathlib.Nat.{add-zero, mod-lt, div-le_self}
use native.Mathlib.Numerals.{add-one}
use native.Mathlib.Omega.{arith}
use lib.Dec.{eqb}
use lib.ListN.{length}
use Rattle.sponge.specs.Waiting.{position_after}
use Rattle.sponge.specs.Published.{xor_byte}
use Rattle.sponge.specs.Count.{Counted, counted_from, open_count, closed_count}
use Rattle.sponge.proofs.Count.{added, pad_added, added_none, steps-counted, pad-counted, after-counted, added-index, pad_count, squeeze_count}
use Rattle.sponge.specs.Model.{Sponge, absorb_bytes, pad, after_bytes, call_status, Outcome, absorb_call, pad_call, squeeze_call, squeeze_output}
use Rattle.sponge.specs.Transcript.{Call, Call.absorb, Call.finalize, Call.squeeze}
use Rattle.sponge.specs.Runs.{worked, bytes_out, run_status}
use Rattle.sponge.proofs.Valid.{absorb_done, pad_done, squeeze_done}
use Rattle.sponge.proofs.Valid.{output_done as valid-output}
use Rattle.sponge.proofs.Joining.{perform_done, perform-refused}
use Rattle.sponge.proofs.Answers as answers
use Rattle.sponge.proofs.Reachable.{Shape, Fixed}
use Rattle.hasher.specs.Function.{message_limit, Function, permutation, rules}
use Rattle.hasher.specs.Model.{reachable, machine, seen, held, run_with, perform_of, written_of}
use Rattle.hasher.specs.declared.Answer.{Answer}
use Rattle.hasher.specs.declared.Run.{Run}
use Rattle.hasher.proofs.Laws.{positions, due, shape, first_is, second_is}

pub position-le : (rate n : ℕ) → 0 < rate → position_after rate n ≤ rate
position-le rate zero h = zero-le
position-le rate (suc n) h = mod-lt n h

pub position-suc : (rate n : ℕ) → (n ≡ 0 → ⊥) → (n - 1) % rate + 1 ≡ position_after rate n
position-suc rate zero h = absurd (h refl)
position-suc rate (suc n) h = let e : suc n - 1 ≡ n = omega arith in rw (e, add-one)

pub count_suc : (rate n : ℕ) → (n ≡ 0 → ⊥) → ((n - 1) / rate ≡ open_count rate n) × ((n - 1) / rate ≤ n)
count_suc rate zero h = absurd (h refl)
count_suc rate (suc n) h =
    let e : suc n - 1 ≡ n = omega arith in
    let l : n / rate ≤ n = div-le_self n rate in
    (rw e, rw e (omega arith))

-- the permutations stay while the block in hand holds the bytes
pub count_stays : (rate n total : ℕ) → 0 < rate → n ≤ total → position_after rate n + (total - n) ≤ rate → open_count rate n ≡ open_count rate total
count_stays rate n total pos h l =
    let e : n + (total - n) ≡ total = omega arith in
    sym (add-zero (open_count rate n))
    ∙ ap (λ (k : ℕ). open_count rate n + k) (sym (added_none rate (position_after rate n) (total - n) l))
    ∙ added-index rate pos n (total - n)
    ∙ ap (open_count rate) e

-- what a run has that 5 does not refuse
pub fits : {A : Type 0} (F : Function A) (r : Run) → 0 < F.rate → reachable F.rate F.output_limit r.position r.phase r.absorbed r.squeezed r.permutations ≡ true → (r.position ≤ F.rate) × (r.absorbed ≤ message_limit) × (r.squeezed ≤ F.output_limit)
unfolding machine rules
fits F r h e =
    let t : Shape (rules F) (machine F) positions (due F.rate) (Fixed F.output_limit) (seen r) = shape F (seen r) e in
    (rw (first_is _ _ _ _ t.positions_due) (position-le F.rate (cond (eqb r.phase 0) r.absorbed r.squeezed) h), t.absorbed-fits, below (eqb r.phase 1) t.squeezed-fits)
  where
    below : (t : Bool) → r.squeezed ≤ cond t F.output_limit 0 → r.squeezed ≤ F.output_limit
    below true g = g
    below false g = omega arith

-- and what its totals tell
module _ {A : Type 0} (F : Function A) (r : Run) (test : reachable F.rate F.output_limit r.position r.phase r.absorbed r.squeezed r.permutations ≡ true) where
  pub open_due_lem : r.phase ≡ 0 → (r.position ≡ position_after F.rate r.absorbed) × (r.permutations ≡ open_count F.rate r.absorbed)
  unfolding machine
  open_due_lem h = let d = rw h at (shape F (seen r) test).positions_due in (first_is _ _ _ _ d, second_is _ _ _ _ d)

  closed_due : r.phase ≡ 1 → (r.position ≡ position_after F.rate r.squeezed) × (r.permutations ≡ closed_count F.rate r.absorbed r.squeezed)
  unfolding machine
  closed_due h = let d = rw h at (shape F (seen r) test).positions_due in (first_is _ _ _ _ d, second_is _ _ _ _ d)

module _ {A : Type 0} (F : Function A) (r : Run) where
  pub status : Call A → ℕ
  status c = run_status (rules F) (machine F) (seen r) c

  -- ---- the status of each call

  pub status_5 : (c : Call A) → reachable F.rate F.output_limit r.position r.phase r.absorbed r.squeezed r.permutations ≡ false → status c ≡ 5
  unfolding machine status
  status_5 = answers.status_5 (rules F) (machine F) (seen r)

  module _ (e : reachable F.rate F.output_limit r.position r.phase r.absorbed r.squeezed r.permutations ≡ true) where
    pub absorb_3 : (p : List ℕ) → (r.phase ≡ 0 → ⊥) → status (absorb p) ≡ 3
    unfolding machine status
    absorb_3 = answers.absorb_3 (rules F) (machine F) (seen r) e

    pub absorb_2 : (p : List ℕ) → r.phase ≡ 0 → message_limit < r.absorbed + length p → status (absorb p) ≡ 2
    unfolding machine rules status
    absorb_2 p f g = answers.absorb_2 (rules F) (machine F) (seen r) e p f refl g

    pub absorb_0 : (p : List ℕ) → r.phase ≡ 0 → r.absorbed + length p ≤ message_limit → status (absorb p) ≡ 0
    unfolding machine rules status
    absorb_0 p f g = answers.absorb_0 (rules F) (machine F) (seen r) e p f refl g

    pub finalize_3 : (d : A) → (r.phase ≡ 0 → ⊥) → status (finalize d) ≡ 3
    unfolding machine status
    finalize_3 = answers.finalize_3 (rules F) (machine F) (seen r) e

    pub finalize_d : (d : A) → r.phase ≡ 0 → status (finalize d) ≡ F.argument d
    unfolding machine rules status
    finalize_d = answers.finalize-argument (rules F) (machine F) (seen r) e

    pub squeeze_3 : (k : ℕ) → (r.phase ≡ 1 → ⊥) → status (squeeze k) ≡ 3
    unfolding machine status
    squeeze_3 = answers.squeeze_3 (rules F) (machine F) (seen r) e

    pub squeeze_6 : (k : ℕ) → r.phase ≡ 1 → F.output_limit < r.squeezed + k → status (squeeze k) ≡ 6
    unfolding machine rules status
    squeeze_6 = answers.squeeze_6 (rules F) (machine F) (seen r) e

    pub squeeze_0 : (k : ℕ) → r.phase ≡ 1 → r.squeezed + k ≤ F.output_limit → status (squeeze k) ≡ 0
    unfolding machine rules status
    squeeze_0 = answers.squeeze_0 (rules F) (machine F) (seen r) e

  -- ---- the answer, by the status

  pub answer-refused : (c : Call A) (n : ℕ) → status c ≡ suc n → record { status = suc n; run = r } ≡ perform_of F r c
  unfolding status perform_of
  answer-refused c n e = rw (perform-refused (rules F) (machine F) (seen r) c n e)

  pub answer_other : (c : Call A) (m : ℕ) → (m ≡ 0 → ⊥) → status c ≡ m → record { status = m; run = r } ≡ perform_of F r c
  answer_other c zero h e = absurd (h refl)
  answer_other c (suc m) h e = answer-refused c m e

  pub answer_done : (c : Call A) → status c ≡ 0 → record { status = 0; run = held (worked (rules F) (machine F) (seen r) c) } ≡ perform_of F r c
  unfolding status perform_of
  answer_done c e = rw (perform_done (rules F) (machine F) (seen r) c e)

  pub output-refused : (out : List ℕ) (n : ℕ) → status (squeeze (length out)) ≡ suc n → out ≡ written_of F r out
  unfolding status written_of
  output-refused out n e = rw (perform-refused (rules F) (machine F) (seen r) (squeeze (length out)) n e)

  pub output_done : (out : List ℕ) → status (squeeze (length out)) ≡ 0 → bytes_out (rules F) (machine F) (seen r) (squeeze (length out)) ≡ written_of F r out
  unfolding status written_of
  output_done out e = rw (perform_done (rules F) (machine F) (seen r) (squeeze (length out)) e)

-- ---- what the sponge's call leaves is the answer

module _ {A : Type 0} (F : Function A) (pos : 0 < F.rate) (r : Run) (ok : call_status F.rounds F.rate r.position ≡ 0)
    (test : reachable F.rate F.output_limit r.position r.phase r.absorbed r.squeezed r.permutations ≡ true) where
  abbrev sponge : Sponge
  sponge = record { value = r.lanes; position = r.position }

  -- an answer from the sponge's call and the number, and from the state that is counted
  abbrev from : ℕ → ℕ → ℕ → ℕ → Outcome → Answer
  from phase absorbed squeezed n u = record { run = run_with u.state.value (record { position = u.state.position; phase = phase; absorbed = absorbed; squeezed = squeezed; permutations = n }); status = u.status }

  abbrev of : ℕ → ℕ → ℕ → Counted → Answer
  of phase absorbed squeezed t = record { run = run_with t.value.0 (record { position = t.position; phase = phase; absorbed = absorbed; squeezed = squeezed; permutations = t.value.1 }); status = 0 }

  pub absorb-answer : (p : List ℕ) (o : Outcome) (n : ℕ) → o ≡ absorb_call F.rounds F.rate sponge p → n ≡ open_count F.rate (r.absorbed + length p) → r.phase ≡ 0 → status F r (absorb p) ≡ 0
      → from r.phase (r.absorbed + length p) r.squeezed n o ≡ perform_of F r (absorb p)
  unfolding machine
  absorb-answer p o n e c h g =
      let d = open_due_lem F r test h in
      let w : r.permutations + added F.rate r.position (length p) ≡ n = rw (d.0, d.1) (added-index F.rate pos r.absorbed (length p)) ∙ sym c in
      ap (from r.phase (r.absorbed + length p) r.squeezed n) (e ∙ absorb_done F.rounds F.rate sponge ok p)
      ∙ ap (of r.phase (r.absorbed + length p) r.squeezed) (sym (steps-counted (permutation F) xor_byte F.rate sponge r.permutations p ∙ ap (counted_from (absorb_bytes (permutation F) F.rate sponge p)) w))
      ∙ answer_done F r (absorb p) g

  pub finalize-answer : (a : A) (o : Outcome) (n : ℕ) → o ≡ pad_call F.rounds F.rate sponge (F.byte a) → n ≡ closed_count F.rate r.absorbed 0 → r.phase ≡ 0 → status F r (finalize a) ≡ 0
      → from 1 r.absorbed r.squeezed n o ≡ perform_of F r (finalize a)
  unfolding machine
  finalize-answer a o n e c h g =
      let d = open_due_lem F r test h in
      let w : r.permutations + pad_added F.rate r.position ≡ n = rw (d.0, d.1) (pad_count F.rate pos r.absorbed) ∙ sym c in
      ap (from 1 r.absorbed r.squeezed n) (e ∙ pad_done F.rounds F.rate sponge ok (F.byte a))
      ∙ ap (of 1 r.absorbed r.squeezed) (sym (pad-counted (permutation F) xor_byte F.rate sponge r.permutations (F.byte a) ∙ ap (counted_from (pad (permutation F) F.rate sponge (F.byte a))) w))
      ∙ answer_done F r (finalize a) g

  pub squeeze-answer : (k : ℕ) (o : Outcome) (n : ℕ) → o ≡ squeeze_call F.rounds F.rate sponge k → n ≡ closed_count F.rate r.absorbed (r.squeezed + k) → r.phase ≡ 1 → status F r (squeeze k) ≡ 0
      → from r.phase r.absorbed (r.squeezed + k) n o ≡ perform_of F r (squeeze k)
  unfolding machine
  squeeze-answer k o n e c h g =
      let d = closed_due F r test h in
      let w : r.permutations + added F.rate r.position k ≡ n = rw (d.0, d.1) (squeeze_count F.rate pos r.absorbed r.squeezed k) ∙ sym c in
      ap (from r.phase r.absorbed (r.squeezed + k) n) (e ∙ squeeze_done F.rounds F.rate sponge ok k)
      ∙ ap (of r.phase r.absorbed (r.squeezed + k)) (sym (after-counted (permutation F) F.rate k sponge r.permutations ∙ ap (counted_from (after_bytes (permutation F) F.rate k sponge)) w))
      ∙ answer_done F r (squeeze k) g

  pub squeeze-written : (out : List ℕ) → status F r (squeeze (length out)) ≡ 0 → squeeze_output F.rounds F.rate sponge out ≡ written_of F r out
  unfolding machine
  squeeze-written out g = valid-output F.rounds F.rate sponge ok out ∙ output_done F r out g
