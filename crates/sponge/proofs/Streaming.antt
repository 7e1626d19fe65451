-- Demand 3 once for every function: over every list of calls from a fresh run, a machine that meets `Laws` does what the transcript tells.
-- Assumes nothing.
use mathlib.Core.Path.{◌≡◌, refl, sym, ap, ◌∙◌, subst}
use mathlib.Core.List.{List, [], ◌∷◌, ◌++◌, append-nil}
use mathlib.Core.Bool.{Bool, true, false, cond}
use Prim.Native.Nat.{ℕ, zero, suc, ◌+◌, ◌≤◌, zero-le}
use native.Mathlib.Nat.{zero-add}
use native.Mathlib.Omega.{arith}
use lib.ListN.{length, drop, length-append}
use lib.Seq.{drop_at}
use lib.Dec.{eqb}
use borrow.Author.Tests.{leb-true}
use Rattle.sponge.specs.Transcript.{Call, Call.absorb, Call.customize, Call.finalize, Call.finish, Call.squeeze, Phase, Phase.absorbing, Phase.customizing, Phase.squeezing, phase_number, customization_of, Transcript, fresh_transcript, Customization, Customization.none, Customization.up_to, customize_status, Rules, output_most, status_of, status_at, written, given, transcribe}
use Rattle.sponge.specs.Runs.{Machine, fresh_run, worked, bytes_out, perform, state_of, run_of}
use Rattle.sponge.specs.Streaming.{history, output_so, Streaming}
use Rattle.sponge.proofs.FirstStatus.{first_zero}
use Rattle.sponge.proofs.Following.{One, Same, follows, streams-from}

pub cond-zero : (t : Bool) (n : ℕ) → cond t 0 (suc n) ≡ 0 → t ≡ true
cond-zero true n e = refl
cond-zero false n e = absurd (omega arith)

pub nothing : (l : List ℕ) → length l ≡ 0 → [] ≡ l
nothing [] e = refl
nothing (x ∷ l) e = absurd (omega arith)

-- ---- transcripts within the limits

-- the most customization bytes
abbrev pub customization_most : {A : Type 0} → Customization A → ℕ
customization_most none = 0
customization_most (up_to most of) = most

-- the function has a customization phase that takes c
abbrev pub Customized : {A : Type 0} → Customization A → List ℕ → Type 0
Customized none c = ⊥
Customized (up_to most of) c = length c ≤ most

pub customize-taken : {A : Type 0} (v : Customization A) (c : List ℕ) → customize_status v (length c) ≡ 0 → Customized v c
customize-taken none c e = omega arith
customize-taken (up_to most of) c e = leb-true _ _ (cond-zero _ _ e)

module _ {A : Type 0} (U : Rules A) where
  -- what the phase holds was taken
  abbrev pub Taken : Phase A → Type 0
  Taken absorbing = Unit {0}
  Taken (customizing c) = Customized U.customization c
  Taken (squeezing a) = U.argument a ≡ 0

  -- the totals are within the limits, and nothing is squeezed before the close
  pub record Fits (t : Transcript A) : Type 0 where
    pub input_fits : length t.absorbed ≤ U.input_limit
    pub output-fits : t.squeezed ≤ output_most U t.phase
    pub phase-taken : Taken t.phase

  pub fits_fresh : Fits fresh_transcript
  fits_fresh = record { input_fits = zero-le; output-fits = zero-le; phase-taken = tt }

module _ {S A : Type 0} (U : Rules A) (M : Machine S A) where
  -- what a machine with a customization phase owes for it: C follows in pieces, is counted, and leaves at the close what the finalize with all of
  -- it does, which takes it
  pub record Customizes (most : ℕ) (of : List ℕ → A) : Type 0 where
    pub customize-nothing : (n : ℕ) (s : S) → M.customize n s [] ≡ s
    pub customize-append : (n : ℕ) (s : S) (p q : List ℕ) → M.customize n s (p ++ q) ≡ M.customize n (M.customize n s p) q
    pub customized_grows : (n : ℕ) (s : S) (p : List ℕ) → M.customized (M.customize n s p) ≡ M.customized s + length p
    pub finish-finalize : (n : ℕ) (s : S) (c : List ℕ) → M.customized s ≡ 0 → M.finish n (M.customize n s c) ≡ M.finalize n s (of c)
    pub argument-taken : (c : List ℕ) → length c ≤ most → U.argument (of c) ≡ 0

  -- that, of a function that has such a phase
  abbrev pub Named : Customization A → Type 0
  Named none = Unit {0}
  Named (up_to most of) = Customizes most of

  -- what a machine owes
  pub record Laws : Type 0 where
    pub absorb-nothing : (n : ℕ) (s : S) → M.absorb n s [] ≡ s
    pub absorb-append : (n : ℕ) (s : S) (p q : List ℕ) → M.absorb n s (p ++ q) ≡ M.absorb (n + length p) (M.absorb n s p) q
    pub customized-fresh : M.customized M.fresh ≡ 0
    pub customized-absorb : (n : ℕ) (s : S) (p : List ℕ) → M.customized (M.absorb n s p) ≡ M.customized s
    pub customized-after : (n : ℕ) (s : S) → M.customized (M.after n s) ≡ M.customized s
    pub limit-absorb : (n : ℕ) (s : S) (p : List ℕ) → M.limit (M.absorb n s p) ≡ M.limit s
    pub limit-customize : (n : ℕ) (s : S) (p : List ℕ) → M.limit (M.customize n s p) ≡ M.limit s
    pub limit-finalize : (n : ℕ) (s : S) (a : A) → M.limit (M.finalize n s a) ≡ U.output_limit a
    pub limit-after : (n : ℕ) (s : S) → M.limit (M.after n s) ≡ M.limit s
    pub customizes : Named U.customization
    pub after-zero : (s : S) → M.after 0 s ≡ s
    pub after-add : (m n : ℕ) (s : S) → M.after (m + n) s ≡ M.after n (M.after m s)
    pub squeeze-add : (m n : ℕ) (s : S) → M.squeeze (m + n) s ≡ M.squeeze m s ++ M.squeeze n (M.after m s)
    pub squeeze-length : (n : ℕ) (s : S) → length (M.squeeze n s) ≡ n
    pub squeeze_output_lem : (f : List ℕ) (a : A) (n : ℕ) → M.squeeze n (M.finalize (length f) (M.absorb 0 M.fresh f) a) ≡ U.output f a n
    pub run-reachable : (t : Transcript A) → Fits U t → M.reachable (run_of U M t) ≡ true

module _ {S A : Type 0} (U : Rules A) (M : Machine S A) (L : Laws U M) where
  pub owed : (most : ℕ) (of : List ℕ → A) → U.customization ≡ up_to most of → Customizes U M most of
  owed most of e = subst (Named U M) e L.customizes

  output-add : (f : List ℕ) (a : A) (n k : ℕ) → U.output f a (n + k) ≡ U.output f a n ++ M.squeeze k (state_of U M f (squeezing a) n)
  output-add f a n k = rw (← L.squeeze_output_lem f a (n + k), ← L.squeeze_output_lem f a n) (L.squeeze-add n k _)

  output_next : (f : List ℕ) (a : A) (n k : ℕ) → drop n (U.output f a (n + k)) ≡ M.squeeze k (state_of U M f (squeezing a) n)
  output_next f a n k = rw (output-add f a n k) (drop_at (U.output f a n) _ n (rw (← L.squeeze_output_lem f a n) (L.squeeze-length n _)))

  -- nothing is given before the close
  output-none : (f : List ℕ) (a : A) → [] ≡ U.output f a 0
  output-none f a = nothing _ (rw (← L.squeeze_output_lem f a 0) (L.squeeze-length 0 _))

  -- ---- the customization bytes are the transcript's, before the close

  pub customized-none : (f : List ℕ) → M.customized (M.absorb 0 M.fresh f) ≡ 0
  customized-none f = L.customized-absorb 0 M.fresh f ∙ L.customized-fresh

  pub customized_so : (f c : List ℕ) (v : Customization A) → U.customization ≡ v → Customized v c → M.customized (M.customize (length f) (M.absorb 0 M.fresh f) c) ≡ length c
  customized_so f c (up_to most of) e l = (owed most of e).customized_grows (length f) (M.absorb 0 M.fresh f) c ∙ rw (customized-none f) (zero-add (length c))
  customized_so f c none e l = absurd l

  -- ---- the read limit is the transcript's, once closed, and no status before that depends on it

  pub closed_limit : (f : List ℕ) (a : A) (n : ℕ) → M.limit (state_of U M f (squeezing a) n) ≡ U.output_limit a
  closed_limit f a n = L.limit-after n _ ∙ L.limit-finalize (length f) _ a

  any_limit : (h m k n l : ℕ) (c : Call A) → eqb h 1 ≡ false → status_of U h m k n l c ≡ status_of U h m k n 0 c
  any_limit h m k n l (absorb p) e = refl
  any_limit h m k n l (customize p) e = refl
  any_limit h m k n l (finalize b) e = refl
  any_limit h m k n l finish e = refl
  any_limit h m k n l (squeeze j) e = rw e

  same_status : (f : List ℕ) (h : Phase A) (n : ℕ) (c : Call A) → Taken U h
      → status_of U (phase_number h) (length f) (M.customized (state_of U M f h n)) n (M.limit (state_of U M f h n)) c
      ≡ status_of U (phase_number h) (length f) (length (customization_of h)) n (output_most U h) c
  same_status f absorbing n c t =
      let l : ℕ = M.limit (state_of U M f absorbing n) in
      ap (λ (k : ℕ). status_of U 0 (length f) k n l c) (customized-none f) ∙ any_limit 0 (length f) 0 n l c refl
  same_status f (customizing d) n c t =
      let l : ℕ = M.limit (state_of U M f (customizing d) n) in
      ap (λ (k : ℕ). status_of U 2 (length f) k n l c) (customized_so f d U.customization refl t) ∙ any_limit 2 (length f) (length d) n l c refl
  same_status f (squeezing a) n (absorb p) t = refl
  same_status f (squeezing a) n (customize p) t = refl
  same_status f (squeezing a) n (finalize b) t = refl
  same_status f (squeezing a) n finish t = refl
  same_status f (squeezing a) n (squeeze k) t = rw (closed_limit f a n)

  -- ---- one call

  -- a call with status 0: the run does what the transcript writes
  record Done (t : Transcript A) (c : Call A) : Type 0 where
    bytes : bytes_out U M (run_of U M t) c ≡ given U t c
    run : worked U M (run_of U M t) c ≡ run_of U M (written U t c)
    fits : Fits U (written U t c)
    extends : output_so U t ++ given U t c ≡ output_so U (written U t c)

  -- the close of a customization phase is the finalize with all of C
  finish_done : (f d : List ℕ) (v : Customization A) → U.customization ≡ v → length f ≤ U.input_limit → Customized v d → Done (record { absorbed = f; phase = customizing d; squeezed = 0 }) finish
  finish_done f d none e l t = absurd t
  finish_done f d (up_to most of) e l t =
      let m : Customizes U M most of = owed most of e in
      record {
        bytes = refl;
        run = rw (e, m.finish-finalize (length f) (M.absorb 0 M.fresh f) d (customized-none f), L.after-zero (M.finalize (length f) (M.absorb 0 M.fresh f) (of d)));
        fits = rw e (record { input_fits = l; output-fits = zero-le; phase-taken = m.argument-taken d t });
        extends = rw e (output-none f (of d));
      }

  -- the first customization piece, even an empty one, ends the message phase
  first_done : (f p : List ℕ) (n : ℕ) → Fits U (record { absorbed = f; phase = absorbing; squeezed = n }) → customize_status U.customization (0 + length p) ≡ 0
      → Done (record { absorbed = f; phase = absorbing; squeezed = n }) (customize p)
  first_done f p n h e = record {
    bytes = refl;
    run = refl;
    fits = record { input_fits = h.input_fits; output-fits = h.output-fits; phase-taken = customize-taken U.customization p (rw zero-add at e) };
    extends = refl;
  }

  -- one customization piece more
  customize_done : (f d p : List ℕ) (v : Customization A) → U.customization ≡ v → length f ≤ U.input_limit → customize_status v (length d + length p) ≡ 0
      → Done (record { absorbed = f; phase = customizing d; squeezed = 0 }) (customize p)
  customize_done f d p none e l z = absurd (omega arith)
  customize_done f d p (up_to most of) e l z = record {
    bytes = refl;
    run = rw ((owed most of e).customize-append (length f) (M.absorb 0 M.fresh f) d p);
    fits = record { input_fits = l; output-fits = zero-le; phase-taken = rw e (customize-taken (up_to most of) (d ++ p) (rw (length-append d p) z)) };
    extends = refl;
  }

  done : (f : List ℕ) (h : Phase A) (n : ℕ) (c : Call A) → Fits U (record { absorbed = f; phase = h; squeezed = n })
      → status_at U (record { absorbed = f; phase = h; squeezed = n }) c ≡ 0 → Done (record { absorbed = f; phase = h; squeezed = n }) c
  done f (squeezing a) n (absorb p) h e = absurd (omega arith)
  done f (customizing d) n (absorb p) h e = absurd (omega arith)
  done f absorbing n (absorb p) h e = record {
    bytes = refl;
    run = rw (L.absorb-append 0 M.fresh f p, zero-add, length-append f p);
    fits = record {
      input_fits = rw (length-append f p) (leb-true _ _ (cond-zero _ _ (first_zero (U.piece (length p)) _ e).1));
      output-fits = h.output-fits;
      phase-taken = tt;
    };
    extends = refl;
  }
  done f (squeezing a) n (customize p) h e = absurd (omega arith)
  done f (customizing d) (suc n) (customize p) h e = absurd (omega arith)
  done f (customizing d) zero (customize p) h e = customize_done f d p U.customization refl h.input_fits e
  done f absorbing n (customize p) h e = first_done f p n h e
  done f (squeezing a) n (finalize b) h e = absurd (omega arith)
  done f (customizing d) n (finalize b) h e = absurd (omega arith)
  done f absorbing (suc n) (finalize b) h e = absurd (omega arith)
  done f absorbing zero (finalize b) h e = record {
    bytes = refl;
    run = rw (L.after-zero (M.finalize (length f) (M.absorb 0 M.fresh f) b));
    fits = record { input_fits = h.input_fits; output-fits = zero-le; phase-taken = e };
    extends = output-none f b;
  }
  done f (squeezing a) n finish h e = absurd (omega arith)
  done f absorbing n finish h e = absurd (omega arith)
  done f (customizing d) (suc n) finish h e = absurd (omega arith)
  done f (customizing d) zero finish h e = finish_done f d U.customization refl h.input_fits h.phase-taken
  done f (squeezing a) n (squeeze k) h e = record {
    bytes = sym (output_next f a n k);
    run = rw (L.after-add n k (M.finalize (length f) (M.absorb 0 M.fresh f) a));
    fits = record { input_fits = h.input_fits; output-fits = leb-true _ _ (cond-zero _ _ e); phase-taken = h.phase-taken };
    extends = rw (output_next f a n k) (sym (output-add f a n k));
  }
  done f absorbing n (squeeze k) h e = absurd (omega arith)
  done f (customizing d) n (squeeze k) h e = absurd (omega arith)

  -- a call on the run that a transcript within the limits tells of: what the transcript says
  pub one : (t : Transcript A) (c : Call A) → Fits U t → One (perform U M) (transcribe U) (run_of U M) (Fits U) (output_so U) t c
  unfolding perform transcribe
  one t c h = by (status_at U t c) refl
    where
      by : (v : ℕ) → status_at U t c ≡ v → One (perform U M) (transcribe U) (run_of U M) (Fits U) (output_so U) t c
      by zero e =
          let g : Done t c = done t.absorbed t.phase t.squeezed c h e in
          record {
            reply_is = rw (L.run-reachable t h, same_status t.absorbed t.phase t.squeezed c h.phase-taken, e, g.bytes, g.run);
            fits = rw e g.fits;
            extends = rw e g.extends;
          }
      by (suc v) e = record {
        reply_is = rw (L.run-reachable t h, same_status t.absorbed t.phase t.squeezed c h.phase-taken, e);
        fits = rw e h;
        extends = rw e (append-nil (output_so U t));
      }

  pub performs : (t : Transcript A) (c : Call A) → Fits U t
      → perform U M (run_of U M t) c ≡ record { status = (transcribe U t c).status; bytes = (transcribe U t c).bytes; left = run_of U M (transcribe U t c).left }
  performs t c h = (one t c h).reply_is

  -- ---- every list of calls

  same : (cs : List (Call A)) (t : Transcript A) → Fits U t → Same (perform U M) (transcribe U) (run_of U M) (Fits U) (output_so U) t cs
  same = follows (perform U M) (transcribe U) (run_of U M) (Fits U) (output_so U) one

  -- the run that the fresh transcript tells of is the fresh one
  pub fresh-told : run_of U M fresh_transcript ≡ fresh_run U M
  fresh-told = rw (L.absorb-nothing 0 M.fresh)

  pub streaming : (cs : List (Call A)) → Streaming U M cs
  streaming cs = streams-from (perform U M) (transcribe U) (run_of U M) (Fits U) (output_so U) (fresh_run U M) fresh_transcript cs fresh-told refl (same cs fresh_transcript (fits_fresh U))

  -- no list of calls passes the limits
  pub told-fits : (cs : List (Call A)) → Fits U (history (transcribe U) fresh_transcript cs).left
  told-fits cs = (same cs fresh_transcript (fits_fresh U)).fits
