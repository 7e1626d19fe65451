-- Where 5 asks for any number of blocks from `least` to `most`: the test is that of some number of blocks in the range, and the machine's laws are those of
-- one number.
-- Assumes nothing.
use mathlib.Core.Path.{◌≡◌, refl, sym, ap, ◌∙◌, subst}
use mathlib.Core.List.{List, ◌++◌}
use mathlib.Core.Bool.{Bool, true, false, cond, ◌&&◌}
use Prim.Native.Nat.{ℕ, zero, suc, ◌+◌, ◌-◌, ◌*◌, ◌≤◌, ◌<◌}
use native.Mathlib.Omega.{arith}
use lib.ListN.{length}
use lib.Dec.{T, eqb, leb}
use borrow.Author.Tests.{ne_eqb, le-leb, leb-true}
use Rattle.keccak.specs.Permutation.{last_rounds}
use Rattle.sponge.specs.Published.{xor_byte}
use Rattle.sponge.specs.Waiting.{steps, position_after}
use Rattle.sponge.specs.Model.{Sponge, fresh, pad, pad_with, squeeze_bytes}
use Rattle.sponge.specs.Count.{counted, uncounted, Counted, sponge_of, fresh_counted}
use Rattle.sponge.specs.Transcript.{Transcript}
use Rattle.sponge.specs.Runs.{Run, worked, run_of}
use Rattle.sponge.proofs.Waiting.{steps-append}
use Rattle.sponge.proofs.Published.{squeeze-add, length-squeeze, squeeze-sponge}
use Rattle.sponge.proofs.Count.{steps-counted, pad-counted, after-counted, after_adds}
use Rattle.sponge.proofs.Streaming.{Fits, Laws}
use Rattle.sponge.proofs.Joining.{Stays}
use Rattle.hasher.specs.Function.{message_limit}
use Rattle.sp800_185.specs.Published.{cshake_byte}
use Rattle.sp800_185.specs.Start.{prefixed}
use Rattle.sp800_185.specs.Function.{Function, ending, keeps, limit, output, rules}
use Rattle.sp800_185.specs.Model.{State, open_own, closed_own, blocks_fit, reachable, machine}
use Rattle.sp800_185.proofs.Lengths.{Meets}
use Rattle.sp800_185.proofs.Laws.{both, shaped, stays, reaches}

module _ {A : Type 0} (F : Function A) where
  -- ---- some number of blocks in the range, suc e, and one number of it

  -- the permutations that the totals tell, for one block
  abbrev pub own : ℕ → ℕ → ℕ → ℕ → ℕ
  own l h n k = cond (eqb h 0) (open_own F n) (closed_own F l n k)

  fit_some : (least most o c : ℕ) → 1 ≤ least → blocks_fit F least most o c ≡ true → (least ≤ suc (c - o)) × (suc (c - o) ≤ most) × (blocks_fit F (suc (c - o)) (suc (c - o)) o c ≡ true)
  fit_some least most o c h t =
      let b = both (leb (least + o) (suc c)) (leb (suc c) (most + o)) t in
      let f = leb-true (least + o) (suc c) b.0 in
      let g = leb-true (suc c) (most + o) b.1 in
      let e : suc (c - o) + o ≡ suc c = omega arith in
      (omega arith, omega arith, rw (le-leb (suc (c - o) + o) (suc c) (omega arith), le-leb (suc c) (suc (c - o) + o) (omega arith)))

  fit_wide : (least most e o c : ℕ) → least ≤ suc e → suc e ≤ most → blocks_fit F (suc e) (suc e) o c ≡ true → blocks_fit F least most o c ≡ true
  fit_wide least most e o c f g t =
      let b = both (leb (suc e + o) (suc c)) (leb (suc c) (suc e + o)) t in
      let x = leb-true (suc e + o) (suc c) b.0 in
      let y = leb-true (suc c) (suc e + o) b.1 in
      rw (le-leb (least + o) (suc c) (omega arith), le-leb (suc c) (most + o) (omega arith))

  -- the other tests are the same
  other : (a b c : Bool) → a && b ≡ true → (b ≡ true → c ≡ true) → a && c ≡ true
  other true b c t f = f t
  other false b c t f = t

  last : (a b : Bool) → a && b ≡ true → b ≡ true
  last a b t = (both a b t).1

  module _ (place l n k c : ℕ) where
    pub wide : (least most e h : ℕ) → least ≤ suc e → suc e ≤ most → reachable F (suc e) (suc e) place l h n k c ≡ true → reachable F least most place l h n k c ≡ true
    unfolding reachable
    wide least most e zero f g t =
        other (leb n message_limit) _ _ t (λ t. other (eqb k 0) _ _ t (λ t. other (eqb l 0) _ _ t (λ t. other (eqb place (position_after F.rate (F.rate + n))) _ _ t (fit_wide least most e (open_own F n) c f g))))
    wide least most e (suc zero) f g t =
        other (leb n message_limit) _ _ t (λ t. other (keeps F l) _ _ t (λ t. other (leb k (limit F l)) _ _ t (λ t. other (eqb place (position_after F.rate k)) _ _ t (fit_wide least most e (closed_own F l n k) c f g))))
    wide least most e (suc (suc h)) f g t =
        let a = last (leb n message_limit) _ (rw (ne_eqb (suc (suc h)) 0 (λ e. omega arith), ne_eqb (suc (suc h)) 1 (λ e. omega arith)) at t) in
        absurd (subst T (sym a) tt)

    -- the number of blocks before the last that the permutations tell
    abbrev pub extra : ℕ → ℕ
    extra h = c - own l h n k

    pub record Some (least most h : ℕ) : Type 0 where
      pub least_fits : least ≤ suc (extra h)
      pub most-fits : suc (extra h) ≤ most
      pub exact : reachable F (suc (extra h)) (suc (extra h)) place l h n k c ≡ true

    pub some : (least most h : ℕ) → 1 ≤ least → reachable F least most place l h n k c ≡ true → Some least most h
    unfolding reachable
    some least most zero f t =
        let d = last (eqb place (position_after F.rate (F.rate + n))) _ (last (eqb l 0) _ (last (eqb k 0) _ (last (leb n message_limit) _ t))) in
        let g = fit_some least most (open_own F n) c f d in
        record {
          least_fits = g.0;
          most-fits = g.1;
          exact = other (leb n message_limit) _ _ t (λ t. other (eqb k 0) _ _ t (λ t. other (eqb l 0) _ _ t (λ t. other (eqb place (position_after F.rate (F.rate + n))) _ _ t (λ t. g.2))));
        }
    some least most (suc zero) f t =
        let d = last (eqb place (position_after F.rate k)) _ (last (leb k (limit F l)) _ (last (keeps F l) _ (last (leb n message_limit) _ t))) in
        let g = fit_some least most (closed_own F l n k) c f d in
        record {
          least_fits = g.0;
          most-fits = g.1;
          exact = other (leb n message_limit) _ _ t (λ t. other (keeps F l) _ _ t (λ t. other (leb k (limit F l)) _ _ t (λ t. other (eqb place (position_after F.rate k)) _ _ t (λ t. g.2))));
        }
    some least most (suc (suc h)) f t =
        let a = last (leb n message_limit) _ (rw (ne_eqb (suc (suc h)) 0 (λ e. omega arith), ne_eqb (suc (suc h)) 1 (λ e. omega arith)) at t) in
        absurd (subst T (sym a) tt)

  -- ---- the machine's laws

  module _ (p : List ℕ) (least most : ℕ) (pos : 0 < F.rate) where
    absorb-joins : (n : ℕ) (s : State) (x y : List ℕ) → (machine F p least most).absorb n s (x ++ y) ≡ (machine F p least most).absorb (n + length x) ((machine F p least most).absorb n s x) y
    unfolding machine
    absorb-joins n s x y = ap (λ (t : Counted). record { sponge = t; output_length = s.output_length }) (steps-append (counted (last_rounds 24)) (uncounted xor_byte) F.rate s.sponge x y)

    after-joins : (m n : ℕ) (s : State) → (machine F p least most).after (m + n) s ≡ (machine F p least most).after n ((machine F p least most).after m s)
    unfolding machine
    after-joins m n s = ap (λ (t : Counted). record { sponge = t; output_length = s.output_length }) (after_adds (counted (last_rounds 24)) F.rate m n s.sponge)

    squeeze-joins : (m n : ℕ) (s : State) → (machine F p least most).squeeze (m + n) s ≡ (machine F p least most).squeeze m s ++ (machine F p least most).squeeze n ((machine F p least most).after m s)
    unfolding machine
    squeeze-joins m n s =
        squeeze-add (last_rounds 24) F.rate pos m n (sponge_of s.sponge)
        ∙ ap (λ (t : Sponge). squeeze_bytes (last_rounds 24) F.rate m (sponge_of s.sponge) ++ squeeze_bytes (last_rounds 24) F.rate n t) (sym (ap sponge_of (after-counted (last_rounds 24) F.rate m (sponge_of s.sponge) s.sponge.value.1)))

    -- what goes before the message, the message and what the close puts after it are absorbed as one string
    pub joined-counted : (x : List ℕ) (l : ℕ)
        → steps (counted (last_rounds 24)) (uncounted xor_byte) F.rate (steps (counted (last_rounds 24)) (uncounted xor_byte) F.rate (prefixed F.rate p) x) (ending F l) ≡ prefixed F.rate (p ++ (x ++ ending F l))
    joined-counted x l =
        sym (steps-append (counted (last_rounds 24)) (uncounted xor_byte) F.rate (prefixed F.rate p) x (ending F l))
        ∙ sym (steps-append (counted (last_rounds 24)) (uncounted xor_byte) F.rate fresh_counted p (x ++ ending F l))

    squeeze_output_lem : (x : List ℕ) (a : A) (n : ℕ)
        → (machine F p least most).squeeze n ((machine F p least most).finalize (length x) ((machine F p least most).absorb 0 (machine F p least most).fresh x) a) ≡ output F p x a n
    unfolding output machine
    squeeze_output_lem x a n =
        let m : List ℕ = p ++ (x ++ ending F (F.said a)) in
        ap (λ (t : Counted). squeeze_bytes (last_rounds 24) F.rate n (sponge_of (pad_with (counted (last_rounds 24)) F.rate (uncounted xor_byte) t cshake_byte))) (joined-counted x (F.said a))
        ∙ ap (λ (t : Counted). squeeze_bytes (last_rounds 24) F.rate n (sponge_of t)) (pad-counted (last_rounds 24) xor_byte F.rate (sponge_of (prefixed F.rate m)) (prefixed F.rate m).value.1 cshake_byte)
        ∙ ap (λ (t : Counted). squeeze_bytes (last_rounds 24) F.rate n (pad (last_rounds 24) F.rate (sponge_of t) cshake_byte)) (steps-counted (last_rounds 24) xor_byte F.rate fresh 0 m)
        ∙ squeeze-sponge (last_rounds 24) F.rate pos m cshake_byte n

    module _ (e : ℕ) (least_fits : least ≤ suc e) (most-fits : suc e ≤ most) (blocks : length p ≡ suc e * F.rate) (E : Meets F) where
      run_passes : (t : Transcript A) → Fits (rules F p) t → (machine F p least most).reachable (run_of (rules F p) (machine F p least most) t) ≡ true
      unfolding machine
      run_passes t h =
          let r : Run State = run_of (rules F p) (machine F p least most) t in
          wide r.state.sponge.position r.state.output_length r.absorbed r.squeezed r.state.sponge.value.1 least most e r.phase least_fits most-fits
          (shaped F p e r (reaches F p e pos E blocks t.absorbed t.phase t.squeezed h))

      pub laws : Laws (rules F p) (machine F p least most)
      unfolding rules machine
      laws = record {
        absorb-nothing = λ n s. refl;
        absorb-append = absorb-joins;
        customized-fresh = refl;
        customized-absorb = λ n s x. refl;
        customized-after = λ n s. refl;
        limit-absorb = λ n s x. refl;
        limit-customize = λ n s x. refl;
        limit-finalize = λ n s a. refl;
        limit-after = λ n s. refl;
        customizes = tt;
        after-zero = λ s. refl;
        after-add = after-joins;
        squeeze-add = squeeze-joins;
        squeeze-length = λ n s. length-squeeze (last_rounds 24) F.rate pos n (sponge_of s.sponge);
        squeeze_output_lem = squeeze_output_lem;
        run-reachable = run_passes;
      }

    pub stays_wide : Meets F → 1 ≤ least → Stays (rules F p) (machine F p least most)
    unfolding machine
    stays_wide E f r c h z =
        let g = some r.state.sponge.position r.state.output_length r.absorbed r.squeezed r.state.sponge.value.1 least most r.phase f h in
        let e : ℕ = r.state.sponge.value.1 - own r.state.output_length r.phase r.absorbed r.squeezed in
        let q : Run State = worked (rules F p) (machine F p least most) r c in
        wide q.state.sponge.position q.state.output_length q.absorbed q.squeezed q.state.sponge.value.1 least most e q.phase g.least_fits g.most-fits
        (stays F p e pos E r c g.exact z)
