-- The cases of what each call answers, for the proofs of the code. Assumes nothing.
use mathlib.Core.Path.{◌≡◌, refl, sym, ap, ◌∙◌, subst}
use mathlib.Core.Bool.{Bool, true, false}
use mathlib.Core.List.{List, []}
use Prim.Native.Nat.{ℕ, zero, suc, ◌+◌, ◌-◌, ◌≤◌, ◌<◌}
use native.Mathlib.Nat.{add_assoc}
use native.Mathlib.Omega.{arith}
use lib.Dec.{eqb, leb}
use lib.ListN.{length}
use borrow.Author.Tests.{eqb-true, leb-true}
use Rattle.keccak.specs.Permutation.{last_rounds}
use Rattle.sponge.specs.Waiting.{steps, position_after}
use Rattle.sponge.specs.Published.{xor_byte}
use Rattle.sponge.specs.Count.{counted, uncounted, Counted, counted_from, open_count}
use Rattle.sponge.specs.Model.{Sponge, absorb_bytes, pad, pad_with, after_bytes, call_status, Outcome, absorb_call, pad_call, squeeze_call, squeeze_output}
use Rattle.sponge.specs.Transcript.{Call, Call.absorb, Call.finalize, Call.squeeze}
use Rattle.sponge.specs.Runs.{worked, bytes_out, run_status}
use Rattle.sponge.proofs.Count.{steps-counted, pad-counted, after-counted}
use Rattle.sponge.proofs.Valid.{absorb_done, pad_done, squeeze_done}
use Rattle.sponge.proofs.Valid.{output_done as valid-output}
use Rattle.sponge.proofs.Joining.{perform_done, perform-refused}
use Rattle.sponge.proofs.Answers as answers
use Rattle.hasher.specs.Function.{message_limit, long_output}
use Rattle.hasher.proofs.Cases.{position-le}
use Rattle.sp800_185.specs.Published.{cshake_byte}
use Rattle.sp800_185.specs.Function.{Function, argument, ending, keeps, limit, rules}
use Rattle.sp800_185.specs.Model.{open_own, closed_own, reachable, machine, seen, held, answer_of, written_of}
use Rattle.sp800_185.specs.declared.Keyed.{Keyed}
use Rattle.sp800_185.specs.declared.Answer.{Answer}
use Rattle.sp800_185.proofs.Lengths.{kept_few}
use Rattle.sp800_185.proofs.Told.{Told, absorb-told, pad-told, after-told}
use Rattle.sp800_185.proofs.Laws.{both}

-- the permutations of one block, and the rest
rest : (c o least : ℕ) → 1 ≤ least → least + o ≤ suc c → c ≡ c - o + o
rest c o least g f = omega arith

-- ---- what a run has that 5 does not refuse, open or closed

module _ {A : Type 0} (F : Function A) (least most place l n k c : ℕ) where
  pub record Open : Type 0 where
    pub absorbed-fits : n ≤ message_limit
    pub place_is : place ≡ position_after F.rate (F.rate + n)
    pub own-fits : least + open_own F n ≤ suc c
    pub few : suc c ≤ most + open_own F n

  pub open_run : reachable F least most place l 0 n k c ≡ true → Open
  unfolding reachable
  open_run t =
      let a = both (leb n message_limit) _ t in
      let b = both (eqb l 0) _ (both (eqb k 0) _ a.1).1 in
      let d = both (eqb place (position_after F.rate (F.rate + n))) _ b.1 in
      let f = both (leb (least + open_own F n) (suc c)) (leb (suc c) (most + open_own F n)) d.1 in
      record { absorbed-fits = leb-true _ _ a.0; place_is = eqb-true _ _ d.0; own-fits = leb-true _ _ f.0; few = leb-true _ _ f.1 }

  pub record Closed : Type 0 where
    pub absorbed-fits : n ≤ message_limit
    pub kept : keeps F l ≡ true
    pub squeezed-fits : k ≤ limit F l
    pub place_is : place ≡ position_after F.rate k
    pub own-fits : least + closed_own F l n k ≤ suc c
    pub few : suc c ≤ most + closed_own F l n k

  pub closed_run : reachable F least most place l 1 n k c ≡ true → Closed
  unfolding reachable
  closed_run t =
      let a = both (leb n message_limit) _ t in
      let b = both (keeps F l) _ a.1 in
      let g = both (leb k (limit F l)) _ b.1 in
      let d = both (eqb place (position_after F.rate k)) _ g.1 in
      let f = both (leb (least + closed_own F l n k) (suc c)) (leb (suc c) (most + closed_own F l n k)) d.1 in
      record { absorbed-fits = leb-true _ _ a.0; kept = b.0; squeezed-fits = leb-true _ _ g.0; place_is = eqb-true _ _ d.0; own-fits = leb-true _ _ f.0; few = leb-true _ _ f.1 }

module _ {A : Type 0} (F : Function A) (x : Keyed) where
  -- the test of status 5, and what it tells by the phase
  abbrev pub Test : Bool → Type 0
  Test b = reachable F F.least F.most x.run.position x.length x.run.phase x.run.absorbed x.run.squeezed x.run.permutations ≡ b

  pub opened : Test true → x.run.phase ≡ 0 → Open F F.least F.most x.run.position x.length x.run.absorbed x.run.squeezed x.run.permutations
  opened t e =
      open_run F F.least F.most x.run.position x.length x.run.absorbed x.run.squeezed x.run.permutations
      (subst (λ (h : ℕ). reachable F F.least F.most x.run.position x.length h x.run.absorbed x.run.squeezed x.run.permutations ≡ true) e t)

  pub closed : Test true → x.run.phase ≡ 1 → Closed F F.least F.most x.run.position x.length x.run.absorbed x.run.squeezed x.run.permutations
  closed t e =
      closed_run F F.least F.most x.run.position x.length x.run.absorbed x.run.squeezed x.run.permutations
      (subst (λ (h : ℕ). reachable F F.least F.most x.run.position x.length h x.run.absorbed x.run.squeezed x.run.permutations ≡ true) e t)

  pub open_place : 0 < F.rate → Test true → x.run.phase ≡ 0 → x.run.position ≤ F.rate
  open_place pos t e = subst (λ (m : ℕ). m ≤ F.rate) (sym (opened t e).place_is) (position-le F.rate (F.rate + x.run.absorbed) pos)

  pub closed_place : 0 < F.rate → Test true → x.run.phase ≡ 1 → x.run.position ≤ F.rate
  closed_place pos t e = subst (λ (m : ℕ). m ≤ F.rate) (sym (closed t e).place_is) (position-le F.rate x.run.squeezed pos)

  -- where the read limit z leaves n bytes more
  pub reads : Test true → x.run.phase ≡ 1 → (z n : ℕ) → z ≡ limit F x.length → n ≤ z - x.run.squeezed
      → (x.run.squeezed + n ≤ limit F x.length) × (x.length ≤ long_output) × (limit F x.length ≤ long_output)
  reads t e z n is h =
      let g = closed t e in
      let f = kept_few F x.length g.kept in
      (omega (arith, h, is, g.squeezed-fits), f.0, f.1)

  -- ---- the status of each call

  pub status : Call A → ℕ
  status c = run_status (rules F []) (machine F [] F.least F.most) (seen x) c

  pub status_5 : (c : Call A) → Test false → status c ≡ 5
  unfolding machine status
  status_5 = answers.status_5 (rules F []) (machine F [] F.least F.most) (seen x)

  module _ (e : Test true) where
    pub absorb_3 : (p : List ℕ) → (x.run.phase ≡ 0 → ⊥) → status (absorb p) ≡ 3
    unfolding machine status
    absorb_3 = answers.absorb_3 (rules F []) (machine F [] F.least F.most) (seen x) e

    pub absorb_2 : (p : List ℕ) → x.run.phase ≡ 0 → message_limit < x.run.absorbed + length p → status (absorb p) ≡ 2
    unfolding machine rules status
    absorb_2 p f g = answers.absorb_2 (rules F []) (machine F [] F.least F.most) (seen x) e p f refl g

    pub absorb_0 : (p : List ℕ) → x.run.phase ≡ 0 → x.run.absorbed + length p ≤ message_limit → status (absorb p) ≡ 0
    unfolding machine rules status
    absorb_0 p f g = answers.absorb_0 (rules F []) (machine F [] F.least F.most) (seen x) e p f refl g

    pub finalize_3 : (a : A) → (x.run.phase ≡ 0 → ⊥) → status (finalize a) ≡ 3
    unfolding machine status
    finalize_3 = answers.finalize_3 (rules F []) (machine F [] F.least F.most) (seen x) e

    pub finalize_a : (a : A) → x.run.phase ≡ 0 → status (finalize a) ≡ argument F a
    unfolding machine rules status
    finalize_a = answers.finalize-argument (rules F []) (machine F [] F.least F.most) (seen x) e

    pub squeeze_3 : (k : ℕ) → (x.run.phase ≡ 1 → ⊥) → status (squeeze k) ≡ 3
    unfolding machine status
    squeeze_3 = answers.squeeze_3 (rules F []) (machine F [] F.least F.most) (seen x) e

    pub squeeze_6 : (k : ℕ) → x.run.phase ≡ 1 → limit F x.length < x.run.squeezed + k → status (squeeze k) ≡ 6
    unfolding machine rules status
    squeeze_6 = answers.squeeze_6 (rules F []) (machine F [] F.least F.most) (seen x) e

    pub squeeze_0 : (k : ℕ) → x.run.phase ≡ 1 → x.run.squeezed + k ≤ limit F x.length → status (squeeze k) ≡ 0
    unfolding machine rules status
    squeeze_0 = answers.squeeze_0 (rules F []) (machine F [] F.least F.most) (seen x) e

  -- ---- the answer, by the status

  pub answer-refused : (c : Call A) (n : ℕ) → status c ≡ suc n → record { keyed = x; status = suc n } ≡ answer_of F x c
  unfolding status answer_of
  answer-refused c n e = rw (perform-refused (rules F []) (machine F [] F.least F.most) (seen x) c n e)

  pub answer_other : (c : Call A) (m : ℕ) → (m ≡ 0 → ⊥) → status c ≡ m → record { keyed = x; status = m } ≡ answer_of F x c
  answer_other c zero h e = absurd (h refl)
  answer_other c (suc m) h e = answer-refused c m e

  answer_done : (c : Call A) → status c ≡ 0 → record { keyed = held (worked (rules F []) (machine F [] F.least F.most) (seen x) c); status = 0 } ≡ answer_of F x c
  unfolding status answer_of
  answer_done c e = rw (perform_done (rules F []) (machine F [] F.least F.most) (seen x) c e)

  pub output-refused : (out : List ℕ) (n : ℕ) → status (squeeze (length out)) ≡ suc n → out ≡ written_of F x out
  unfolding status written_of
  output-refused out n e = rw (perform-refused (rules F []) (machine F [] F.least F.most) (seen x) (squeeze (length out)) n e)

  output_done : (out : List ℕ) → status (squeeze (length out)) ≡ 0 → bytes_out (rules F []) (machine F [] F.least F.most) (seen x) (squeeze (length out)) ≡ written_of F x out
  unfolding status written_of
  output_done out e = rw (perform_done (rules F []) (machine F [] F.least F.most) (seen x) (squeeze (length out)) e)

  -- ---- what the sponge's calls leave is the answer

  module _ (pos : 0 < F.rate) (some : 1 ≤ F.least) (test : Test true) where
    abbrev sponge : Sponge
    sponge = record { value = x.run.lanes; position = x.run.position }

    -- an answer from the sponge's call and the number, and from the state that is counted
    abbrev pub from : ℕ → ℕ → ℕ → ℕ → ℕ → Outcome → Answer
    from phase absorbed squeezed l n u = record {
      keyed = record { run = record { lanes = u.state.value; position = u.state.position; phase = phase; absorbed = absorbed; squeezed = squeezed; permutations = n }; length = l };
      status = u.status;
    }

    abbrev of : ℕ → ℕ → ℕ → ℕ → Counted → Answer
    of phase absorbed squeezed l t = record {
      keyed = record { run = record { lanes = t.value.0; position = t.position; phase = phase; absorbed = absorbed; squeezed = squeezed; permutations = t.value.1 }; length = l };
      status = 0;
    }

    -- the totals tell an open run, and a closed one, but for the blocks before the last of the prefix
    open_told : x.run.phase ≡ 0 → Told F.rate pos (x.run.permutations - open_own F x.run.absorbed) (position_after F.rate (F.rate + x.run.absorbed)) (open_own F x.run.absorbed) (counted_from sponge x.run.permutations)
    open_told h = let o = opened test h in record { position_is = o.place_is; count_is = rest x.run.permutations (open_own F x.run.absorbed) F.least some o.own-fits }

    closed_told : x.run.phase ≡ 1
        → Told F.rate pos (x.run.permutations - closed_own F x.length x.run.absorbed x.run.squeezed) (position_after F.rate x.run.squeezed) (closed_own F x.length x.run.absorbed x.run.squeezed) (counted_from sponge x.run.permutations)
    closed_told h = let o = closed test h in record { position_is = o.place_is; count_is = rest x.run.permutations (closed_own F x.length x.run.absorbed x.run.squeezed) F.least some o.own-fits }

    pub absorb-answer : (p : List ℕ) (o : Outcome) (n : ℕ) → call_status 24 F.rate x.run.position ≡ 0 → o ≡ absorb_call 24 F.rate sponge p → n ≡ x.run.permutations - open_own F x.run.absorbed + open_own F (x.run.absorbed + length p)
        → x.run.phase ≡ 0 → status (absorb p) ≡ 0 → from x.run.phase (x.run.absorbed + length p) x.run.squeezed x.length n o ≡ answer_of F x (absorb p)
    unfolding machine
    absorb-answer p o n ok e w h g =
        let c = steps-counted (last_rounds 24) xor_byte F.rate sponge x.run.permutations p in
        let t = absorb-told F.rate pos (x.run.permutations - open_own F x.run.absorbed) (F.rate + x.run.absorbed) (counted_from sponge x.run.permutations) p (open_told h) in
        let m : (steps (counted (last_rounds 24)) (uncounted xor_byte) F.rate (counted_from sponge x.run.permutations) p).value.1 ≡ n =
        t.count_is ∙ ap (λ (k : ℕ). x.run.permutations - open_own F x.run.absorbed + open_count F.rate k) (add_assoc F.rate x.run.absorbed (length p)) ∙ sym w in
        ap (from x.run.phase (x.run.absorbed + length p) x.run.squeezed x.length n) (e ∙ absorb_done 24 F.rate sponge ok p)
        ∙ ap (of x.run.phase (x.run.absorbed + length p) x.run.squeezed x.length) (sym (c ∙ ap (counted_from (absorb_bytes (last_rounds 24) F.rate sponge p)) (sym (ap (λ (u : Counted). u.value.1) c) ∙ m)))
        ∙ answer_done (absorb p) g

    pub finalize-answer : (a : A) (s : Sponge) (o : Outcome) (n : ℕ) → s ≡ absorb_bytes (last_rounds 24) F.rate sponge (ending F (F.said a)) → call_status 24 F.rate s.position ≡ 0 → o ≡ pad_call 24 F.rate s cshake_byte
        → n ≡ x.run.permutations - open_own F x.run.absorbed + closed_own F (F.said a) x.run.absorbed 0 → x.run.phase ≡ 0 → status (finalize a) ≡ 0
        → from 1 x.run.absorbed x.run.squeezed (F.said a) n o ≡ answer_of F x (finalize a)
    unfolding machine
    finalize-answer a s o n f ok e w h g =
        let d : ℕ = x.run.permutations - open_own F x.run.absorbed in
        let b : List ℕ = ending F (F.said a) in
        let before : Counted = steps (counted (last_rounds 24)) (uncounted xor_byte) F.rate (counted_from sponge x.run.permutations) b in
        let t = absorb-told F.rate pos d (F.rate + x.run.absorbed) (counted_from sponge x.run.permutations) b (open_told h) in
        let u = pad-told F.rate pos d (F.rate + x.run.absorbed + length b) before cshake_byte t in
        let c = steps-counted (last_rounds 24) xor_byte F.rate sponge x.run.permutations b in
        let q : before ≡ counted_from s before.value.1 = c ∙ (λ i. counted_from (sym f i) (sym (ap (λ (u : Counted). u.value.1) c) i)) in
        let r = ap (λ (v : Counted). pad_with (counted (last_rounds 24)) F.rate (uncounted xor_byte) v cshake_byte) q ∙ pad-counted (last_rounds 24) xor_byte F.rate s before.value.1 cshake_byte in
        ap (from 1 x.run.absorbed x.run.squeezed (F.said a) n) (e ∙ pad_done 24 F.rate s ok cshake_byte)
        ∙ ap (of 1 x.run.absorbed x.run.squeezed (F.said a)) (sym (r ∙ ap (counted_from (pad (last_rounds 24) F.rate s cshake_byte)) (sym (ap (λ (u : Counted). u.value.1) r) ∙ u.count_is ∙ sym w)))
        ∙ answer_done (finalize a) g

    pub squeeze-answer : (k : ℕ) (o : Outcome) (n : ℕ) → call_status 24 F.rate x.run.position ≡ 0 → o ≡ squeeze_call 24 F.rate sponge k
        → n ≡ x.run.permutations - closed_own F x.length x.run.absorbed x.run.squeezed + closed_own F x.length x.run.absorbed (x.run.squeezed + k) → x.run.phase ≡ 1 → status (squeeze k) ≡ 0
        → from x.run.phase x.run.absorbed (x.run.squeezed + k) x.length n o ≡ answer_of F x (squeeze k)
    unfolding machine
    squeeze-answer k o n ok e w h g =
        let d : ℕ = x.run.permutations - closed_own F x.length x.run.absorbed x.run.squeezed in
        let c = after-counted (last_rounds 24) F.rate k sponge x.run.permutations in
        let t = after-told F.rate pos d (F.rate + x.run.absorbed + length (ending F x.length)) x.run.squeezed k (counted_from sponge x.run.permutations) (closed_told h) in
        ap (from x.run.phase x.run.absorbed (x.run.squeezed + k) x.length n) (e ∙ squeeze_done 24 F.rate sponge ok k)
        ∙ ap (of x.run.phase x.run.absorbed (x.run.squeezed + k) x.length) (sym (c ∙ ap (counted_from (after_bytes (last_rounds 24) F.rate k sponge)) (sym (ap (λ (u : Counted). u.value.1) c) ∙ t.count_is ∙ sym w)))
        ∙ answer_done (squeeze k) g

    pub squeeze-written : (out : List ℕ) → call_status 24 F.rate x.run.position ≡ 0 → status (squeeze (length out)) ≡ 0 → squeeze_output 24 F.rate sponge out ≡ written_of F x out
    unfolding machine
    squeeze-written out ok g = valid-output 24 F.rate sponge ok out ∙ output_done out g
