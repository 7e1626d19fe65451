-- The machine of the functions of SP 800-185 meets the laws of the law of joining, after whatever went before the message: first where 5 asks for one
-- number of blocks of it, suc e, then where it asks for any from `least` to `most`.
-- Assumes nothing.
use mathlib.Core.Path.{◌≡◌, refl, sym, ap, ◌∙◌, subst}
use mathlib.Core.List.{List, [], ◌∷◌}
use mathlib.Core.Bool.{Bool, true, cond, ◌&&◌, and-eq-true_iff}
use Prim.Native.Nat.{ℕ, zero, suc, ◌+◌, ◌*◌, ◌≤◌, ◌<◌, zero-le}
use native.Mathlib.Nat.{zero-add, add_assoc, le_refl}
use native.Mathlib.Omega.{arith}
use lib.ListN.{length}
use lib.Dec.{T, eqb, leb}
use borrow.Author.Tests.{eq-eqb, ne_eqb, eqb-true, le-leb, leb-true}
use Rattle.keccak.specs.Permutation.{last_rounds}
use Rattle.sponge.specs.Published.{xor_byte}
use Rattle.sponge.specs.Waiting.{steps, position_after}
use Rattle.sponge.specs.Count.{counted, uncounted, Counted, open_count, closed_count}
use Rattle.sponge.specs.Transcript.{Call, Call.absorb, Call.customize, Call.finalize, Call.finish, Call.squeeze, Phase, Phase.absorbing, Phase.customizing, Phase.squeezing, status_of}
use Rattle.sponge.specs.Runs.{Run, worked, run_of}
use Rattle.sponge.proofs.Streaming.{cond-zero, Fits}
use Rattle.sponge.proofs.Joining.{Stays}
use Rattle.sponge.proofs.Reachable.{Shape}
use Rattle.hasher.specs.Function.{message_limit}
use Rattle.sp800_185.specs.Published.{cshake_byte}
use Rattle.sp800_185.specs.Start.{prefixed}
use Rattle.sp800_185.specs.Function.{Function, ending, keeps, limit, rules}
use Rattle.sp800_185.specs.Model.{State, open_own, closed_own, blocks_fit, reachable, machine}
use Rattle.sp800_185.proofs.Told.{Told, absorb-told, pad-told, after-told, start-told}
use Rattle.sp800_185.proofs.Lengths.{kept_at, kept_limit, Meets, said_kept}

-- the position in the block, the permutations and the output length that is kept
abbrev pub positions : State → List ℕ
positions s = s.sponge.position ∷ s.sponge.value.1 ∷ s.output_length ∷ []

pub first_is : (a b c a' b' c' : ℕ) → ◌≡◌ {A = List ℕ} (a ∷ b ∷ c ∷ []) (a' ∷ b' ∷ c' ∷ []) → a ≡ a'
first_is a b c a' b' c' e = cc e

pub second_is : (a b c a' b' c' : ℕ) → ◌≡◌ {A = List ℕ} (a ∷ b ∷ c ∷ []) (a' ∷ b' ∷ c' ∷ []) → b ≡ b'
second_is a b c a' b' c' e = cc e

pub third_is : (a b c a' b' c' : ℕ) → ◌≡◌ {A = List ℕ} (a ∷ b ∷ c ∷ []) (a' ∷ b' ∷ c' ∷ []) → c ≡ c'
third_is a b c a' b' c' e = cc e

pub triple : {a b c a' b' c' : ℕ} → a ≡ a' → b ≡ b' → c ≡ c' → ◌≡◌ {A = List ℕ} (a ∷ b ∷ c ∷ []) (a' ∷ b' ∷ c' ∷ [])
triple e f g = λ i. e i ∷ f i ∷ g i ∷ []

pub both : (a b : Bool) → a && b ≡ true → (a ≡ true) × (b ≡ true)
both a b e = (and-eq-true_iff a b).0 e

none : (k : ℕ) → k ≡ 0 → k ≤ 0
none k e = omega arith

no_more : (k : ℕ) → k ≤ 0 → k ≡ 0
no_more k l = omega arith

module _ {A : Type 0} (F : Function A) where
  -- what the three have to be by the phase, the totals and the read limit z, where suc e blocks went before the message
  abbrev pub due : ℕ → ℕ → ℕ → ℕ → ℕ → ℕ → List ℕ
  due e phase absorbed customized squeezed z =
      cond (eqb phase 0) (position_after F.rate (F.rate + absorbed)) (position_after F.rate squeezed)
      ∷ (e + cond (eqb phase 0) (open_own F absorbed) (closed_own F (kept_at F z) absorbed squeezed))
      ∷ cond (eqb phase 0) 0 (kept_at F z)
      ∷ []

  -- the read limits of closed runs
  abbrev pub Limited : ℕ → Type 0
  Limited z = (keeps F (kept_at F z) ≡ true) × (limit F (kept_at F z) ≡ z)

  fit_exact : (e own n : ℕ) → blocks_fit F (suc e) (suc e) own n ≡ true → n ≡ e + own
  fit_exact e own n h = let b = both (leb (suc e + own) (suc n)) (leb (suc n) (suc e + own)) h in omega (arith, leb-true (suc e + own) (suc n) b.0, leb-true (suc n) (suc e + own) b.1)

  exact_fit : (e own n : ℕ) → n ≡ e + own → blocks_fit F (suc e) (suc e) own n ≡ true
  exact_fit e own n h = rw (le-leb (suc e + own) (suc n) (omega arith), le-leb (suc n) (suc e + own) (omega arith))

  -- ---- the test of status 5 says what Shape says, for one number of blocks

  module _ (p : List ℕ) (e : ℕ) where
    abbrev Shaped : Run State → Type 0
    Shaped = Shape (rules F p) (machine F p (suc e) (suc e)) positions (due e) Limited

    shape_by : (s : State) (h n k : ℕ) → reachable F (suc e) (suc e) s.sponge.position s.output_length h n k s.sponge.value.1 ≡ true
        → Shaped (record { state = s; phase = h; absorbed = n; squeezed = k })
    unfolding reachable rules machine
    shape_by s zero n k t =
        let a = both (leb n message_limit) _ t in
        let b = both (eqb k 0) _ a.1 in
        let c = both (eqb s.output_length 0) _ b.1 in
        let d = both (eqb s.sponge.position (position_after F.rate (F.rate + n))) _ c.1 in
        let l = eqb-true _ _ c.0 in
        record {
          phase-fits = zero-le;
          absorbed-fits = leb-true _ _ a.0;
          customized-fits = zero-le;
          limit_due = ap (limit F) l;
          squeezed-fits = none k (eqb-true k 0 b.0);
          positions_due = triple (eqb-true _ _ d.0) (fit_exact e (open_own F n) s.sponge.value.1 d.1) l;
        }
    shape_by s (suc zero) n k t =
        let a = both (leb n message_limit) _ t in
        let b = both (keeps F s.output_length) _ a.1 in
        let c = both (leb k (limit F s.output_length)) _ b.1 in
        let d = both (eqb s.sponge.position (position_after F.rate k)) _ c.1 in
        let l = kept_limit F s.output_length b.0 in
        record {
          phase-fits = le_refl 1;
          absorbed-fits = leb-true _ _ a.0;
          customized-fits = zero-le;
          limit_due = (ap (keeps F) l ∙ b.0, ap (limit F) l);
          squeezed-fits = leb-true _ _ c.0;
          positions_due =
              triple (eqb-true _ _ d.0)
              (fit_exact e (closed_own F s.output_length n k) s.sponge.value.1 d.1 ∙ ap (λ (m : ℕ). e + closed_own F m n k) (sym l)) (sym l);
        }
    shape_by s (suc (suc h)) n k t =
        let a = both (leb n message_limit) _ (rw (ne_eqb (suc (suc h)) 0 (λ e. omega arith), ne_eqb (suc (suc h)) 1 (λ e. omega arith)) at t) in
        absurd (subst T (sym a.1) tt)

    pub shape : (r : Run State) → (machine F p (suc e) (suc e)).reachable r ≡ true → Shaped r
    unfolding machine
    shape r t = shape_by r.state r.phase r.absorbed r.squeezed t

    shaped_by : (s : State) (h n k : ℕ) → Shaped (record { state = s; phase = h; absorbed = n; squeezed = k })
        → reachable F (suc e) (suc e) s.sponge.position s.output_length h n k s.sponge.value.1 ≡ true
    unfolding reachable rules machine
    shaped_by s zero n k t =
        let d = t.positions_due in
        rw (le-leb n message_limit t.absorbed-fits, eq-eqb k 0 (omega (arith, t.squeezed-fits)), eq-eqb s.output_length 0 (third_is _ _ _ _ _ _ d), eq-eqb s.sponge.position (position_after F.rate (F.rate + n)) (first_is _ _ _ _ _ _ d))
        (exact_fit e (open_own F n) s.sponge.value.1 (second_is _ _ _ _ _ _ d))
    shaped_by s (suc zero) n k t =
        let d = t.positions_due in
        let l : kept_at F (limit F s.output_length) ≡ s.output_length = sym (third_is _ _ _ _ _ _ d) in
        rw (le-leb n message_limit t.absorbed-fits, sym (ap (keeps F) l) ∙ t.limit_due.0, le-leb k (limit F s.output_length) t.squeezed-fits, eq-eqb s.sponge.position (position_after F.rate k) (first_is _ _ _ _ _ _ d))
        (exact_fit e (closed_own F s.output_length n k) s.sponge.value.1 (second_is _ _ _ _ _ _ d ∙ ap (λ (m : ℕ). e + closed_own F m n k) l))
    shaped_by s (suc (suc h)) n k t = absurd (let l = t.phase-fits in omega arith)

    pub shaped : (r : Run State) → Shaped r → (machine F p (suc e) (suc e)).reachable r ≡ true
    unfolding machine
    shaped r t = shaped_by r.state r.phase r.absorbed r.squeezed t

    -- ---- a run that 5 does not refuse stays one

    module _ (pos : 0 < F.rate) (E : Meets F) where
      stays_by : (s : State) (h n k : ℕ) (c : Call A) → Shaped (record { state = s; phase = h; absorbed = n; squeezed = k })
          → status_of (rules F p) h n 0 k (limit F s.output_length) c ≡ 0
          → Shaped (worked (rules F p) (machine F p (suc e) (suc e)) (record { state = s; phase = h; absorbed = n; squeezed = k }) c)
      unfolding rules machine
      stays_by s zero n k (absorb x) t z =
          let d = t.positions_due in
          let u = absorb-told F.rate pos e (F.rate + n) s.sponge x (record { position_is = first_is _ _ _ _ _ _ d; count_is = second_is _ _ _ _ _ _ d }) in
          record {
            phase-fits = zero-le;
            absorbed-fits = leb-true _ _ (cond-zero _ _ z);
            customized-fits = zero-le;
            limit_due = t.limit_due;
            squeezed-fits = t.squeezed-fits;
            positions_due =
                triple (u.position_is ∙ ap (position_after F.rate) (add_assoc F.rate n (length x))) (u.count_is ∙ ap (λ (m : ℕ). e + open_count F.rate m) (add_assoc F.rate n (length x)))
                (third_is _ _ _ _ _ _ d);
          }
      stays_by s zero n k (finalize a) t z =
          let d = t.positions_due in
          let u = absorb-told F.rate pos e (F.rate + n) s.sponge (ending F (F.said a)) (record { position_is = first_is _ _ _ _ _ _ d; count_is = second_is _ _ _ _ _ _ d }) in
          let v = pad-told F.rate pos e (F.rate + n + length (ending F (F.said a))) _ cshake_byte u in
          let y = said_kept F E a z in
          let l = kept_limit F (F.said a) y in
          let q : k ≡ 0 = no_more k t.squeezed-fits in
          record {
            phase-fits = le_refl 1;
            absorbed-fits = t.absorbed-fits;
            customized-fits = zero-le;
            limit_due = (ap (keeps F) l ∙ y, ap (limit F) l);
            squeezed-fits = rw q zero-le;
            positions_due = rw q (triple v.position_is (v.count_is ∙ ap (λ (m : ℕ). e + closed_own F m n 0) (sym l)) (sym l));
          }
      stays_by s zero n k (customize x) t z = absurd (omega arith)
      stays_by s zero n k finish t z = absurd (omega arith)
      stays_by s zero n k (squeeze j) t z = absurd (omega arith)
      stays_by s (suc zero) n k (absorb x) t z = absurd (omega arith)
      stays_by s (suc zero) n k (customize x) t z = absurd (omega arith)
      stays_by s (suc zero) n k (finalize a) t z = absurd (omega arith)
      stays_by s (suc zero) n k finish t z = absurd (omega arith)
      stays_by s (suc zero) n k (squeeze j) t z =
          let d = t.positions_due in
          let y : ℕ = F.rate + n + length (ending F (kept_at F (limit F s.output_length))) in
          let u = after-told F.rate pos e y k j s.sponge (record { position_is = first_is _ _ _ _ _ _ d; count_is = second_is _ _ _ _ _ _ d }) in
          record {
            phase-fits = le_refl 1;
            absorbed-fits = t.absorbed-fits;
            customized-fits = zero-le;
            limit_due = t.limit_due;
            squeezed-fits = leb-true _ _ (cond-zero _ _ z);
            positions_due = triple u.position_is u.count_is (third_is _ _ _ _ _ _ d);
          }
      stays_by s (suc (suc h)) n k c t z = absurd (let l = t.phase-fits in omega arith)

      pub stays : Stays (rules F p) (machine F p (suc e) (suc e))
      unfolding machine
      stays r c h z = shaped (worked (rules F p) (machine F p (suc e) (suc e)) r c) (stays_by r.state r.phase r.absorbed r.squeezed c (shape r h) z)

    -- ---- and so is every run that a transcript tells of, where p has suc e blocks

    module _ (pos : 0 < F.rate) (E : Meets F) (blocks : length p ≡ suc e * F.rate) where
      absorbed-told : (x : List ℕ) → Told F.rate pos e (position_after F.rate (F.rate + length x)) (open_own F (length x)) ((machine F p (suc e) (suc e)).absorb 0 (machine F p (suc e) (suc e)).fresh x).sponge
      unfolding machine
      absorbed-told x = absorb-told F.rate pos e F.rate (prefixed F.rate p) x (start-told F.rate pos e p blocks)

      pub reaches : (x : List ℕ) (h : Phase A) (n : ℕ) → Fits (rules F p) (record { absorbed = x; phase = h; squeezed = n })
          → Shaped (run_of (rules F p) (machine F p (suc e) (suc e)) (record { absorbed = x; phase = h; squeezed = n }))
      unfolding rules machine
      reaches x absorbing n t =
          let u = absorbed-told x in
          record {
            phase-fits = zero-le;
            absorbed-fits = t.input_fits;
            customized-fits = zero-le;
            limit_due = refl;
            squeezed-fits = t.output-fits;
            positions_due = triple u.position_is u.count_is refl;
          }
      reaches x (customizing c) n t = absurd t.phase-taken
      reaches x (squeezing a) n t =
          let s : Counted = steps (counted (last_rounds 24)) (uncounted xor_byte) F.rate (prefixed F.rate p) x in
          let y = said_kept F E a t.phase-taken in
          let l = kept_limit F (F.said a) y in
          let m : ℕ = F.rate + length x + length (ending F (F.said a)) in
          let u = absorb-told F.rate pos e (F.rate + length x) s (ending F (F.said a)) (absorbed-told x) in
          let v = pad-told F.rate pos e m _ cshake_byte u in
          let w = after-told F.rate pos e m 0 n _ v in
          record {
            phase-fits = le_refl 1;
            absorbed-fits = t.input_fits;
            customized-fits = zero-le;
            limit_due = (ap (keeps F) l ∙ y, ap (limit F) l);
            squeezed-fits = t.output-fits;
            positions_due =
                triple (w.position_is ∙ ap (position_after F.rate) (zero-add n)) (w.count_is ∙ ap (λ (j : ℕ). e + closed_count F.rate m j) (zero-add n) ∙ ap (λ (j : ℕ). e + closed_own F j (length x) n) (sym l)) (sym l);
          }
