-- Lists of calls after a start on the code's runs, their permutations, and status 5 in both directions over the starts of a function.
-- Assumes nothing.
use mathlib.Core.Path.{◌≡◌, refl, sym, ap, ◌∙◌, subst}
use mathlib.Core.List.{List, [], ◌++◌}
use mathlib.Core.Bool.{Bool, true, false, cond}
use Prim.Native.Nat.{ℕ, suc, ◌+◌, ◌*◌, ◌^◌, ◌≤◌, ◌<◌}
use native.Mathlib.Nat.{zero-add, add_assoc, le_refl}
use native.Mathlib.Omega.{arith}
use lib.ListN.{length, length-append}
use lib.Dec.{eqb, leb}
use Rattle.keccak.specs.Permutation.{last_rounds}
use Rattle.sponge.specs.Published.{xor_byte}
use Rattle.sponge.specs.Model.{pad_with, after_bytes}
use Rattle.sponge.specs.Cut.{ceil}
use Rattle.sponge.specs.Callable.{All}
use Rattle.sponge.specs.Count.{counted, uncounted, Counted, fresh_counted, open_count, closed_count, read_count}
use Rattle.sponge.specs.Status.{done, unreachable}
use Rattle.sponge.specs.Transcript.{Call, Phase, Phase.absorbing, Phase.customizing, Phase.squeezing, phase_number, Transcript}
use Rattle.sponge.specs.Runs.{run_of}
use Rattle.sponge.specs.Streaming as streaming
use Rattle.sponge.specs.Streaming.{History, joined}
use Rattle.sponge.proofs.Waiting.{steps-append}
use Rattle.sponge.proofs.Count.{open_words, closed_words_lem}
use Rattle.sponge.proofs.Streaming as generic
use Rattle.sponge.proofs.Streaming.{Laws, Fits, told-fits}
use Rattle.sponge.proofs.Reachable.{Statuses, reachable_reached}
use Rattle.hasher.specs.Function.{long_output}
use Rattle.sp800_185.specs.Published.{cshake_byte}
use Rattle.sp800_185.specs.Start.{prefixed}
use Rattle.sp800_185.specs.Function.{Function, length_status, ending, limit, rules, permutations_of}
use Rattle.sp800_185.specs.Model.{machine, seen, held}
use Rattle.sp800_185.specs.Claims.{told, ran, length_of, Streaming, Counts, Callable}
use Rattle.sp800_185.specs.declared.Keyed.{Keyed}
use Rattle.sp800_185.proofs.Told.{absorb-told, pad-told, after-told}
use Rattle.sp800_185.proofs.Lengths.{kept_at, kept_few, Meets, some_taken}
use Rattle.sp800_185.proofs.Laws.{positions, first_is, second_is, third_is, due, Limited, shape, shaped}
use Rattle.sp800_185.proofs.Ranges.{laws, joined-counted}
use Rattle.sp800_185.proofs.Claims.{ran-held, left_is}

-- no argument of a close answers 5
argument_other : (f : Bool) (l : ℕ) → cond f (length_status l) done ≡ unreachable → ⊥
argument_other true l e = by (eqb l 0) (leb l long_output) e
  where
    by : (s t : Bool) → ◌≡◌ {A = ℕ} (cond s 7 (cond t 0 6)) 5 → ⊥
    by true t e = omega arith
    by false true e = omega arith
    by false false e = omega arith
argument_other false l e = omega arith

module _ {A : Type 0} (F : Function A) where
  pub no_piece : (n : ℕ) → (rules F []).piece n ≡ unreachable → ⊥
  unfolding rules
  no_piece n e = omega arith

  pub no_argument : (a : A) → (rules F []).argument a ≡ unreachable → ⊥
  unfolding rules
  no_argument a e = argument_other F.fixes (F.said a) e

none-counted : (m : ℕ) → m ≤ 0 → 0 ≡ m
none-counted m l = omega arith

short : (n l : ℕ) → l ≤ long_output → n ≤ l → n < 2 ^ 63
short n l f g = omega arith

module _ {A : Type 0} (F : Function A) (E : Meets F) where
  -- ---- the permutations of the definition

  module _ (p : List ℕ) (least most : ℕ) where
    count_by : (x : List ℕ) (h : Phase A) (n : ℕ) → Fits (rules F p) (record { absorbed = x; phase = h; squeezed = n })
        → (run_of (rules F p) (machine F p least most) (record { absorbed = x; phase = h; squeezed = n })).state.sponge.value.1 ≡ permutations_of F p (record { absorbed = x; phase = h; squeezed = n })
    unfolding rules machine
    count_by x absorbing n t = ap (λ (s : Counted). s.value.1) (sym (steps-append (counted (last_rounds 24)) (uncounted xor_byte) F.rate fresh_counted p x))
    count_by x (customizing c) n t = absurd t.phase-taken
    count_by x (squeezing a) n t =
        ap (λ (s : Counted). (after_bytes (counted (last_rounds 24)) F.rate n (pad_with (counted (last_rounds 24)) F.rate (uncounted xor_byte) s cshake_byte)).value.1) (joined-counted F p least most E.positive x (F.said a))

    length_by : (x : List ℕ) (h : Phase A) (n : ℕ) → (run_of (rules F p) (machine F p least most) (record { absorbed = x; phase = h; squeezed = n })).state.output_length ≡ length_of F p h
    unfolding machine
    length_by x absorbing n = refl
    length_by x (customizing c) n = refl
    length_by x (squeezing a) n = refl

    -- in words
    whole-told : (x : List ℕ) → (prefixed F.rate (p ++ x)).value.1 ≡ open_count F.rate (length p + length x)
    whole-told x =
        let t = absorb-told F.rate E.positive 0 0 fresh_counted (p ++ x) (record { position_is = refl; count_is = refl }) in
        t.count_is ∙ zero-add _ ∙ ap (open_count F.rate) (zero-add (length (p ++ x)) ∙ length-append p x)

    open_by : (x : List ℕ) (h : Phase A) (n : ℕ) → phase_number h ≡ 0 → permutations_of F p (record { absorbed = x; phase = h; squeezed = n }) ≡ read_count F.rate (length p + length x)
    open_by x absorbing n e = whole-told x ∙ open_words F.rate E.positive (length p + length x)
    open_by x (customizing c) n e = absurd (omega arith)
    open_by x (squeezing a) n e = absurd (omega arith)

    closed_by : (x : List ℕ) (h : Phase A) (n : ℕ) → phase_number h ≡ 1
        → permutations_of F p (record { absorbed = x; phase = h; squeezed = n }) ≡ ceil F.rate (length p + length x + length (ending F (length_of F p h)) + 1) + read_count F.rate n
    closed_by x absorbing n e = absurd (omega arith)
    closed_by x (customizing c) n e = absurd (omega arith)
    closed_by x (squeezing a) n e =
        let b : List ℕ = ending F (F.said a) in
        let w : List ℕ = p ++ (x ++ b) in
        let t = absorb-told F.rate E.positive 0 0 fresh_counted w (record { position_is = refl; count_is = refl }) in
        let u = pad-told F.rate E.positive 0 (0 + length w) (prefixed F.rate w) cshake_byte t in
        let v = after-told F.rate E.positive 0 (0 + length w) 0 n (pad_with (counted (last_rounds 24)) F.rate (uncounted xor_byte) (prefixed F.rate w) cshake_byte) u in
        let m : 0 + length w ≡ length p + length x + length b = zero-add (length w) ∙ length-append p (x ++ b) ∙ ap (λ (k : ℕ). length p + k) (length-append x b) ∙ sym (add_assoc (length p) (length x) (length b)) in
        v.count_is ∙ zero-add _ ∙ (λ i. closed_count F.rate (m i) (zero-add n i)) ∙ closed_words_lem F.rate E.positive (length p + length x + length b) n

  -- ---- after a start whose prefix has suc e blocks

  module _ (p : List ℕ) (e : ℕ) (least_fits : F.least ≤ suc e) (most-fits : suc e ≤ F.most) (blocks : length p ≡ suc e * F.rate) where
    lawful : Laws (rules F p) (machine F p F.least F.most)
    lawful = laws F p F.least F.most E.positive e least_fits most-fits blocks E

    pub run_told_lem : (cs : List (Call A)) → (ran F p cs).left ≡ held (run_of (rules F p) (machine F p F.least F.most) (told F p cs).left)
    run_told_lem cs = left_is F E p cs ∙ ap held (generic.streaming (rules F p) (machine F p F.least F.most) lawful cs).run

    pub streams : (cs : List (Call A)) → Streaming F p cs
    streams cs =
        let s = generic.streaming (rules F p) (machine F p F.least F.most) lawful cs in
        let t : Transcript A = (told F p cs).left in
        record {
          statuses = ap (λ (h : History Keyed). h.statuses) (ran-held F E p cs) ∙ s.statuses;
          bytes = ap (λ (h : History Keyed). h.bytes) (ran-held F E p cs) ∙ s.bytes;
          run = run_told_lem cs;
          phase = ap (λ (x : Keyed). x.run.phase) (run_told_lem cs);
          absorbed = ap (λ (x : Keyed). x.run.absorbed) (run_told_lem cs);
          squeezed = ap (λ (x : Keyed). x.run.squeezed) (run_told_lem cs);
          output_length = ap (λ (x : Keyed). x.length) (run_told_lem cs) ∙ length_by p F.least F.most t.absorbed t.phase t.squeezed;
          permutations = ap (λ (x : Keyed). x.run.permutations) (run_told_lem cs) ∙ count_by p F.least F.most t.absorbed t.phase t.squeezed (told-fits (rules F p) (machine F p F.least F.most) lawful cs);
          within = (told-fits (rules F p) (machine F p F.least F.most) lawful cs).output-fits;
          output = ap (λ (h : History Keyed). joined h.bytes) (ran-held F E p cs) ∙ s.output;
        }

    pub counts : (cs : List (Call A)) → Counts F p cs
    counts cs =
        let t : Transcript A = (told F p cs).left in
        record {
          while_absorbing = λ h. (streams cs).permutations ∙ open_by p F.least F.most t.absorbed t.phase t.squeezed (sym (streams cs).phase ∙ h);
          once_squeezing = λ h. (streams cs).permutations ∙ closed_by p F.least F.most t.absorbed t.phase t.squeezed (sym (streams cs).phase ∙ h);
        }

    -- the run that a list leaves passes the test of status 5
    pub left_passes : (cs : List (Call A)) → (machine F p F.least F.most).reachable (seen (ran F p cs).left) ≡ true
    left_passes cs =
        ap (λ (x : Keyed). (machine F p F.least F.most).reachable (seen x)) (run_told_lem cs)
        ∙ lawful.run-reachable (told F p cs).left (told-fits (rules F p) (machine F p F.least F.most) lawful cs)

    -- ---- a run that passes it with so many blocks is reached

    statuses : Statuses (rules F p) (machine F p (suc e) (suc e)) (Limited F) (Callable F)
    unfolding rules machine
    statuses = record {
      nothing-taken = refl;
      byte-taken = refl;
      piece_other = λ n z. omega arith;
      some = λ m l. E.some (kept_at F l);
      some_taken = λ m l c z. some_taken F E (kept_at F l) z.0;
      some_counted = λ n s m l c z. none-counted m c;
      some_limit = λ m l c z. ap (limit F) (E.some_said (kept_at F l) z.0) ∙ z.1;
      argument_other = λ a z. argument_other F.fixes (F.said a) z;
      can_absorb = ((omega arith, tt), omega arith);
      can_customize = λ m l. l;
      can_finalize = λ m l c z. subst (λ (n : ℕ). n < 2 ^ 64) (sym (E.some_said (kept_at F l) z.0)) (let f = (kept_few F (kept_at F l) z.0).0 in omega arith);
      can_squeeze = λ n l z h. short n l (subst (λ (n : ℕ). n ≤ long_output) z.1 (kept_few F (kept_at F l) z.0).1) h;
    }

    exact_left : (cs : List (Call A)) → (ran F p cs).left ≡ held (streaming.ran (rules F p) (machine F p (suc e) (suc e)) cs).left
    unfolding machine
    exact_left cs = run_told_lem cs ∙ ap held (sym (generic.streaming (rules F p) (machine F p (suc e) (suc e)) (laws F p (suc e) (suc e) E.positive e (le_refl (suc e)) (le_refl (suc e)) blocks E) cs).run)

    pub record Found (x : Keyed) : Type 0 where
      pub calls : List (Call A)
      pub callable : All (Callable F) calls
      pub phase_is : (ran F p calls).left.run.phase ≡ x.run.phase
      pub absorbed_is : (ran F p calls).left.run.absorbed ≡ x.run.absorbed
      pub squeezed_is : (ran F p calls).left.run.squeezed ≡ x.run.squeezed
      pub length_is : (ran F p calls).left.length ≡ x.length
      pub position_is : (ran F p calls).left.run.position ≡ x.run.position
      pub permutations_is : (ran F p calls).left.run.permutations ≡ x.run.permutations

    pub found : (x : Keyed) → (machine F p (suc e) (suc e)).reachable (seen x) ≡ true → Found x
    found x t =
        let g = reachable_reached (rules F p) (machine F p (suc e) (suc e)) (laws F p (suc e) (suc e) E.positive e (le_refl (suc e)) (le_refl (suc e)) blocks E) positions (due F e) (Limited F) (shape F p e) (shaped F p e) (Callable F) statuses (seen x) t in
        let cs : List (Call A) = g.calls in
        record {
          calls = cs;
          callable = g.calls_can;
          phase_is = ap (λ (q : Keyed). q.run.phase) (exact_left cs) ∙ g.phase_is;
          absorbed_is = ap (λ (q : Keyed). q.run.absorbed) (exact_left cs) ∙ g.absorbed_is;
          squeezed_is = ap (λ (q : Keyed). q.run.squeezed) (exact_left cs) ∙ g.squeezed_is;
          length_is = ap (λ (q : Keyed). q.length) (exact_left cs) ∙ third_is _ _ _ _ _ _ g.positions_are;
          position_is = ap (λ (q : Keyed). q.run.position) (exact_left cs) ∙ first_is _ _ _ _ _ _ g.positions_are;
          permutations_is = ap (λ (q : Keyed). q.run.permutations) (exact_left cs) ∙ second_is _ _ _ _ _ _ g.positions_are;
        }
