-- A function's machine meets the laws of the law of joining, for every rate above 0.
-- Assumes nothing.
use mathlib.Core.Path.{◌≡◌, refl, sym, ap, ◌∙◌, subst}
use mathlib.Core.List.{List, [], ◌∷◌, ◌++◌}
use mathlib.Core.Bool.{Bool, true, cond, ◌&&◌, and-eq-true_iff}
use Prim.Native.Nat.{ℕ, zero, suc, ◌+◌, ◌<◌, zero-le}
use native.Mathlib.Nat.{zero-add}
use native.Mathlib.Omega.{arith}
use lib.ListN.{length}
use lib.Dec.{T, eqb, leb}
use borrow.Author.Tests.{eq-eqb, ne_eqb, eqb-true, le-leb, leb-true}
use Rattle.keccak.specs.Permutation.{last_rounds}
use Rattle.sponge.specs.Published.{xor_byte, sponge}
use Rattle.sponge.specs.Waiting.{steps, position_after}
use Rattle.sponge.specs.Model.{Sponge, absorb_bytes, pad, pad_with, squeeze_bytes, after_bytes}
use Rattle.sponge.specs.Count.{counted, uncounted, Counted, sponge_of, open_count, closed_count}
use Rattle.sponge.specs.Transcript.{Call, Call.absorb, Call.customize, Call.finalize, Call.finish, Call.squeeze, Phase, Phase.absorbing, Phase.customizing, Phase.squeezing, status_of}
use Rattle.sponge.specs.Runs.{Run, worked, run_of}
use Rattle.sponge.proofs.Waiting.{steps-append}
use Rattle.sponge.proofs.Position.{steps-position, after-position}
use Rattle.sponge.proofs.Published.{squeeze-add, length-squeeze, squeeze-sponge}
use Rattle.sponge.proofs.Count.{steps-counted, pad-counted, after-counted, after_adds, added-index, pad_count, squeeze_count}
use Rattle.sponge.proofs.Valid.{pad-position}
use Rattle.sponge.proofs.Streaming.{cond-zero, Fits, Laws}
use Rattle.sponge.proofs.Joining.{Stays}
use Rattle.sponge.proofs.Reachable.{Shape, Fixed}
use Rattle.hasher.specs.Function.{message_limit, Function, permutation, output, rules}
use Rattle.hasher.specs.Model.{reachable, machine}

-- the position in the block and the permutations, and what they have to be
abbrev pub positions : Counted → List ℕ
positions s = s.position ∷ s.value.1 ∷ []

abbrev pub due : ℕ → ℕ → ℕ → ℕ → ℕ → ℕ → List ℕ
due rate phase absorbed customized squeezed limit = position_after rate (cond (eqb phase 0) absorbed squeezed) ∷ cond (eqb phase 0) (open_count rate absorbed) (closed_count rate absorbed squeezed) ∷ []

both : (a b : Bool) → a && b ≡ true → (a ≡ true) × (b ≡ true)
both a b e = (and-eq-true_iff a b).0 e

pub first_is : (a b c d : ℕ) → ◌≡◌ {A = List ℕ} (a ∷ c ∷ []) (b ∷ d ∷ []) → a ≡ b
first_is a b c d e = cc e

pub second_is : (a b c d : ℕ) → ◌≡◌ {A = List ℕ} (a ∷ c ∷ []) (b ∷ d ∷ []) → c ≡ d
second_is a b c d e = cc e

pub pair : {a b c d : ℕ} → a ≡ b → c ≡ d → ◌≡◌ {A = List ℕ} (a ∷ c ∷ []) (b ∷ d ∷ [])
pair e f = λ i. e i ∷ f i ∷ []

module _ {A : Type 0} (F : Function A) where
  -- the output is the published sponge's, for crates above
  pub output_is : (m : List ℕ) (a : A) (n : ℕ) → output F m a n ≡ sponge (last_rounds F.rounds) F.rate m (F.byte a) n
  unfolding output
  output_is m a n = refl

  -- ---- the test of status 5 says what Shape says

  shape_by : (s : Counted) (h n k : ℕ) → reachable F.rate F.output_limit s.position h n k s.value.1 ≡ true
      → Shape (rules F) (machine F) positions (due F.rate) (Fixed F.output_limit) (record { state = s; phase = h; absorbed = n; squeezed = k })
  unfolding reachable rules machine
  shape_by s zero n k e =
      let a = both (leb n message_limit) _ e in
      let b = both (eqb k 0) _ a.1 in
      let d = both (eqb s.position (position_after F.rate n)) (eqb s.value.1 (open_count F.rate n)) b.1 in
      record {
        phase-fits = omega arith;
        absorbed-fits = leb-true _ _ a.0;
        customized-fits = zero-le;
        limit_due = refl;
        squeezed-fits = omega (arith, eqb-true k 0 b.0);
        positions_due = pair (eqb-true _ _ d.0) (eqb-true _ _ d.1);
      }
  shape_by s (suc zero) n k e =
      let a = both (leb n message_limit) _ e in
      let b = both (leb k F.output_limit) _ a.1 in
      let d = both (eqb s.position (position_after F.rate k)) (eqb s.value.1 (closed_count F.rate n k)) b.1 in
      record {
        phase-fits = omega arith;
        absorbed-fits = leb-true _ _ a.0;
        customized-fits = zero-le;
        limit_due = refl;
        squeezed-fits = leb-true _ _ b.0;
        positions_due = pair (eqb-true _ _ d.0) (eqb-true _ _ d.1);
      }
  shape_by s (suc (suc h)) n k e =
      let a = both (leb n message_limit) _ (rw (ne_eqb (suc (suc h)) 0 (λ e. omega arith), ne_eqb (suc (suc h)) 1 (λ e. omega arith)) at e) in
      absurd (subst T (sym a.1) tt)

  pub shape : (r : Run Counted) → (machine F).reachable r ≡ true → Shape (rules F) (machine F) positions (due F.rate) (Fixed F.output_limit) r
  unfolding machine
  shape r e = shape_by r.state r.phase r.absorbed r.squeezed e

  shaped_by : (s : Counted) (h n k : ℕ) → Shape (rules F) (machine F) positions (due F.rate) (Fixed F.output_limit) (record { state = s; phase = h; absorbed = n; squeezed = k })
      → reachable F.rate F.output_limit s.position h n k s.value.1 ≡ true
  unfolding reachable rules machine
  shaped_by s zero n k t =
      let z : k ≡ 0 = omega (arith, t.squeezed-fits) in
      rw (le-leb n message_limit t.absorbed-fits, eq-eqb k 0 z, eq-eqb s.position (position_after F.rate n) (first_is _ _ _ _ t.positions_due), eq-eqb s.value.1 (open_count F.rate n) (second_is _ _ _ _ t.positions_due))
  shaped_by s (suc zero) n k t = rw (le-leb n message_limit t.absorbed-fits, le-leb k F.output_limit t.squeezed-fits, eq-eqb s.position (position_after F.rate k) (first_is _ _ _ _ t.positions_due), eq-eqb s.value.1 (closed_count F.rate n k) (second_is _ _ _ _ t.positions_due))
  shaped_by s (suc (suc h)) n k t = absurd (let l = t.phase-fits in omega arith)

  pub shaped : (r : Run Counted) → Shape (rules F) (machine F) positions (due F.rate) (Fixed F.output_limit) r → (machine F).reachable r ≡ true
  unfolding machine
  shaped r t = shaped_by r.state r.phase r.absorbed r.squeezed t

  -- ---- the machine's laws

  module _ (pos : 0 < F.rate) where
    -- a state that the totals tell, after bytes, after the padding, and after bytes squeezed
    absorb_due : (n : ℕ) (s : Counted) (p : List ℕ) → s.position ≡ position_after F.rate n → s.value.1 ≡ open_count F.rate n
        → positions (steps (counted (permutation F)) (uncounted xor_byte) F.rate s p) ≡ position_after F.rate (n + length p) ∷ open_count F.rate (n + length p) ∷ []
    absorb_due n s p e f =
        pair (steps-position (counted (permutation F)) (uncounted xor_byte) F.rate pos n s p e)
        (ap (λ (t : Counted). t.value.1) (steps-counted (permutation F) xor_byte F.rate (sponge_of s) s.value.1 p) ∙ rw (e, f) (added-index F.rate pos n (length p)))

    pad_due : (n : ℕ) (s : Counted) (d : ℕ) → s.position ≡ position_after F.rate n → s.value.1 ≡ open_count F.rate n
        → positions (pad_with (counted (permutation F)) F.rate (uncounted xor_byte) s d) ≡ 0 ∷ closed_count F.rate n 0 ∷ []
    pad_due n s d e f =
        let c = pad-counted (permutation F) xor_byte F.rate (sponge_of s) s.value.1 d in
        pair (ap (λ (t : Counted). t.position) c ∙ pad-position (permutation F) F.rate (sponge_of s) d) (ap (λ (t : Counted). t.value.1) c ∙ rw (e, f) (pad_count F.rate pos n))

    after_due : (n j k : ℕ) (s : Counted) → s.position ≡ position_after F.rate j → s.value.1 ≡ closed_count F.rate n j
        → positions (after_bytes (counted (permutation F)) F.rate k s) ≡ position_after F.rate (j + k) ∷ closed_count F.rate n (j + k) ∷ []
    after_due n j k s e f =
        let c = after-counted (permutation F) F.rate k (sponge_of s) s.value.1 in
        pair (ap (λ (t : Counted). t.position) c ∙ after-position (permutation F) F.rate pos j (sponge_of s) k e) (ap (λ (t : Counted). t.value.1) c ∙ rw (e, f) (squeeze_count F.rate pos n j k))

    reaches : (f : List ℕ) (h : Phase A) (n : ℕ) → Fits (rules F) (record { absorbed = f; phase = h; squeezed = n })
        → Shape (rules F) (machine F) positions (due F.rate) (Fixed F.output_limit) (run_of (rules F) (machine F) (record { absorbed = f; phase = h; squeezed = n }))
    unfolding rules machine
    reaches f absorbing n t = record {
      phase-fits = zero-le;
      absorbed-fits = t.input_fits;
      customized-fits = zero-le;
      limit_due = refl;
      squeezed-fits = t.output-fits;
      positions_due = absorb_due 0 (machine F).fresh f refl refl ∙ ap (λ (m : ℕ). position_after F.rate m ∷ open_count F.rate m ∷ []) (zero-add (length f));
    }
    reaches f (customizing c) n t = absurd t.phase-taken
    reaches f (squeezing d) n t = record {
      phase-fits = omega arith;
      absorbed-fits = t.input_fits;
      customized-fits = zero-le;
      limit_due = refl;
      squeezed-fits = t.output-fits;
      positions_due =
          let a = absorb_due 0 (machine F).fresh f refl refl ∙ ap (λ (m : ℕ). position_after F.rate m ∷ open_count F.rate m ∷ []) (zero-add (length f)) in
          let b = pad_due (length f) ((machine F).absorb 0 (machine F).fresh f) (F.byte d) (first_is _ _ _ _ a) (second_is _ _ _ _ a) in
          after_due (length f) 0 n ((machine F).finalize (length f) ((machine F).absorb 0 (machine F).fresh f) d) (first_is _ _ _ _ b) (second_is _ _ _ _ b)
          ∙ ap (λ (m : ℕ). position_after F.rate m ∷ closed_count F.rate (length f) m ∷ []) (zero-add n);
    }

    -- the lanes are those of the definition that does not count
    lanes-absorbed : (s : Counted) (p : List ℕ) → sponge_of (steps (counted (permutation F)) (uncounted xor_byte) F.rate s p) ≡ absorb_bytes (permutation F) F.rate (sponge_of s) p
    lanes-absorbed s p = ap sponge_of (steps-counted (permutation F) xor_byte F.rate (sponge_of s) s.value.1 p)

    lanes-padded : (s : Counted) (d : ℕ) → sponge_of (pad_with (counted (permutation F)) F.rate (uncounted xor_byte) s d) ≡ pad (permutation F) F.rate (sponge_of s) d
    lanes-padded s d = ap sponge_of (pad-counted (permutation F) xor_byte F.rate (sponge_of s) s.value.1 d)

    lanes-after : (k : ℕ) (s : Counted) → sponge_of (after_bytes (counted (permutation F)) F.rate k s) ≡ after_bytes (permutation F) F.rate k (sponge_of s)
    lanes-after k s = ap sponge_of (after-counted (permutation F) F.rate k (sponge_of s) s.value.1)

    -- what is squeezed after m was absorbed and padded is the published output
    squeeze_output_lem : (m : List ℕ) (a : A) (n : ℕ)
        → squeeze_bytes (permutation F) F.rate n (sponge_of ((machine F).finalize (length m) ((machine F).absorb 0 (machine F).fresh m) a)) ≡ output F m a n
    unfolding output machine
    squeeze_output_lem m a n =
        ap (squeeze_bytes (permutation F) F.rate n)
        (lanes-padded ((machine F).absorb 0 (machine F).fresh m) (F.byte a) ∙ ap (λ (t : Sponge). pad (permutation F) F.rate t (F.byte a)) (lanes-absorbed (machine F).fresh m))
        ∙ squeeze-sponge (permutation F) F.rate pos m (F.byte a) n

    squeeze_adds : (m n : ℕ) (s : Counted)
        → (machine F).squeeze (m + n) s ≡ (machine F).squeeze m s ++ (machine F).squeeze n ((machine F).after m s)
    unfolding machine
    squeeze_adds m n s =
        squeeze-add (permutation F) F.rate pos m n (sponge_of s)
        ∙ ap (λ (t : Sponge). squeeze_bytes (permutation F) F.rate m (sponge_of s) ++ squeeze_bytes (permutation F) F.rate n t) (sym (lanes-after m s))

    absorb-joins : (n : ℕ) (s : Counted) (p q : List ℕ) → (machine F).absorb n s (p ++ q) ≡ (machine F).absorb (n + length p) ((machine F).absorb n s p) q
    unfolding machine
    absorb-joins n s p q = steps-append (counted (permutation F)) (uncounted xor_byte) F.rate s p q

    pub laws : Laws (rules F) (machine F)
    unfolding rules machine
    laws = record {
      absorb-nothing = λ n s. refl;
      absorb-append = absorb-joins;
      customized-fresh = refl;
      customized-absorb = λ n s p. refl;
      customized-after = λ n s. refl;
      limit-absorb = λ n s p. refl;
      limit-customize = λ n s p. refl;
      limit-finalize = λ n s a. refl;
      limit-after = λ n s. refl;
      customizes = tt;
      after-zero = λ s. refl;
      after-add = after_adds (counted (permutation F)) F.rate;
      squeeze-add = squeeze_adds;
      squeeze-length = λ n s. length-squeeze (permutation F) F.rate pos n (sponge_of s);
      squeeze_output_lem = squeeze_output_lem;
      run-reachable = λ t h. shaped (run_of (rules F) (machine F) t) (reaches t.absorbed t.phase t.squeezed h);
    }

    -- ---- a run that 5 does not refuse stays one

    stays_by : (s : Counted) (h n k : ℕ) (c : Call A) → Shape (rules F) (machine F) positions (due F.rate) (Fixed F.output_limit) (record { state = s; phase = h; absorbed = n; squeezed = k })
        → status_of (rules F) h n 0 k F.output_limit c ≡ 0
        → Shape (rules F) (machine F) positions (due F.rate) (Fixed F.output_limit) (worked (rules F) (machine F) (record { state = s; phase = h; absorbed = n; squeezed = k }) c)
    unfolding rules machine
    stays_by s zero n k (absorb p) t e = record {
      phase-fits = zero-le;
      absorbed-fits = leb-true _ _ (cond-zero _ _ e);
      customized-fits = zero-le;
      limit_due = refl;
      squeezed-fits = t.squeezed-fits;
      positions_due = absorb_due n s p (first_is _ _ _ _ t.positions_due) (second_is _ _ _ _ t.positions_due);
    }
    stays_by s zero n k (finalize d) t e =
        let z : k ≡ 0 = omega (arith, t.squeezed-fits) in
        record {
          phase-fits = omega arith;
          absorbed-fits = t.absorbed-fits;
          customized-fits = zero-le;
          limit_due = refl;
          squeezed-fits = rw z zero-le;
          positions_due = rw z (pad_due n s (F.byte d) (first_is _ _ _ _ t.positions_due) (second_is _ _ _ _ t.positions_due));
        }
    stays_by s zero n k (customize p) t e = absurd (omega arith)
    stays_by s zero n k finish t e = absurd (omega arith)
    stays_by s zero n k (squeeze j) t e = absurd (omega arith)
    stays_by s (suc zero) n k (absorb p) t e = absurd (omega arith)
    stays_by s (suc zero) n k (customize p) t e = absurd (omega arith)
    stays_by s (suc zero) n k (finalize d) t e = absurd (omega arith)
    stays_by s (suc zero) n k finish t e = absurd (omega arith)
    stays_by s (suc zero) n k (squeeze j) t e = record {
      phase-fits = t.phase-fits;
      absorbed-fits = t.absorbed-fits;
      customized-fits = zero-le;
      limit_due = refl;
      squeezed-fits = leb-true _ _ (cond-zero _ _ e);
      positions_due = after_due n k j s (first_is _ _ _ _ t.positions_due) (second_is _ _ _ _ t.positions_due);
    }
    stays_by s (suc (suc h)) n k c t e = absurd (let l = t.phase-fits in omega arith)

    pub stays : Stays (rules F) (machine F)
    unfolding machine
    stays r c h e = shaped (worked (rules F) (machine F) r c) (stays_by r.state r.phase r.absorbed r.squeezed c (shape r h) e)
