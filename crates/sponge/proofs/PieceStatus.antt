-- A function with another status of pieces (`with_pieces`), over the same machine: the laws of the first function hold of the second, and a
-- call on the second is told by one on the first.
-- Assumes nothing.
use mathlib.Core.Path.{◌≡◌, refl}
use mathlib.Core.List.{List, []}
use mathlib.Core.Bool.{Bool, true, false}
use Prim.Native.Nat.{ℕ, suc, ◌≤◌}
use native.Mathlib.Nat.{add-zero}
use lib.ListN.{length}
use lib.Dec.{eqb}
use borrow.Author.Tests.{le-leb}
use Rattle.sponge.specs.Status.{first_of}
use Rattle.sponge.specs.Transcript.{Call, Call.absorb, Call.customize, Call.finalize, Call.finish, Call.squeeze, Phase, Phase.absorbing, Phase.customizing, Phase.squeezing, Transcript, Customization, Customization.none, Customization.up_to, Rules, with_pieces, transcribe}
use Rattle.sponge.specs.Runs.{Run, Machine, perform}
use Rattle.sponge.proofs.Streaming.{Fits, Named, Laws}

-- ---- what is owed

-- the totals fit whatever the status of pieces is
pub fits_with : {A : Type 0} (U : Rules A) (piece : ℕ → ℕ) (t : Transcript A) → Fits U t → Fits (with_pieces U piece) t
fits_with {A} U piece t h = by t.absorbed t.phase t.squeezed h
  where
    by : (f : List ℕ) (h : Phase A) (n : ℕ) → Fits U (record { absorbed = f; phase = h; squeezed = n }) → Fits (with_pieces U piece) (record { absorbed = f; phase = h; squeezed = n })
    by f absorbing n t = record { input_fits = t.input_fits; output-fits = t.output-fits; phase-taken = t.phase-taken }
    by f (customizing c) n t = record { input_fits = t.input_fits; output-fits = t.output-fits; phase-taken = t.phase-taken }
    by f (squeezing a) n t = record { input_fits = t.input_fits; output-fits = t.output-fits; phase-taken = t.phase-taken }

pub fits_without : {A : Type 0} (U : Rules A) (piece : ℕ → ℕ) (t : Transcript A) → Fits (with_pieces U piece) t → Fits U t
fits_without U piece t h = fits_with (with_pieces U piece) U.piece t h

module _ {S A : Type 0} (U : Rules A) (M : Machine S A) (piece : ℕ → ℕ) where
  named : (v : Customization A) → Named U M v → Named (with_pieces U piece) M v
  named none m = tt
  named (up_to most of) m = record {
    customize-nothing = m.customize-nothing;
    customize-append = m.customize-append;
    customized_grows = m.customized_grows;
    finish-finalize = m.finish-finalize;
    argument-taken = m.argument-taken;
  }

  pub laws : Laws U M → Laws (with_pieces U piece) M
  laws L = record {
    absorb-nothing = L.absorb-nothing;
    absorb-append = L.absorb-append;
    customized-fresh = L.customized-fresh;
    customized-absorb = L.customized-absorb;
    customized-after = L.customized-after;
    limit-absorb = L.limit-absorb;
    limit-customize = L.limit-customize;
    limit-finalize = L.limit-finalize;
    limit-after = L.limit-after;
    customizes = named U.customization L.customizes;
    after-zero = L.after-zero;
    after-add = L.after-add;
    squeeze-add = L.squeeze-add;
    squeeze-length = L.squeeze-length;
    squeeze_output_lem = L.squeeze_output_lem;
    run-reachable = λ t h. L.run-reachable t (fits_without U piece t h);
  }

-- ---- what a call does, to a transcript and to a run

module _ {A : Type 0} (U : Rules A) (piece : ℕ → ℕ) where
  -- the two functions have one status for a call: any but an absorb, and an absorb whose piece has one
  abbrev pub Agree : Call A → Type 0
  Agree (absorb p) = U.piece (length p) ≡ piece (length p)
  Agree (customize p) = Unit {0}
  Agree (finalize a) = Unit {0}
  Agree finish = Unit {0}
  Agree (squeeze k) = Unit {0}

  pub transcribe_same : (t : Transcript A) (c : Call A) → Agree c → transcribe U t c ≡ transcribe (with_pieces U piece) t c
  unfolding transcribe
  transcribe_same t (absorb p) e = rw e
  transcribe_same t (customize p) e = refl
  transcribe_same t (finalize a) e = refl
  transcribe_same t finish e = refl
  transcribe_same t (squeeze k) e = refl

module _ {S A : Type 0} (U : Rules A) (M : Machine S A) (piece : ℕ → ℕ) where
  pub perform_same : (r : Run S) (c : Call A) → Agree U piece c → perform U M r c ≡ perform (with_pieces U piece) M r c
  unfolding perform
  perform_same r (absorb p) e = rw e
  perform_same r (customize p) e = refl
  perform_same r (finalize a) e = refl
  perform_same r finish e = refl
  perform_same r (squeeze k) e = refl

  -- a piece that is refused by itself gets what nothing would get, and its own status where that is done; a run that 5 does not refuse
  -- has absorbed no more than the limit
  pub absorb_other : (r : Run S) (p : List ℕ) (n : ℕ) → (M.reachable r ≡ true → r.absorbed ≤ U.input_limit) → U.piece 0 ≡ 0 → piece (length p) ≡ suc n
      → perform (with_pieces U piece) M r (absorb p) ≡ record { status = first_of (perform U M r (absorb [])).status (suc n); bytes = []; left = r }
  unfolding perform
  absorb_other r p n fits e f = by (M.reachable r) (eqb r.phase 0) refl refl
    where
      by : (t o : Bool) → M.reachable r ≡ t → eqb r.phase 0 ≡ o
          → perform (with_pieces U piece) M r (absorb p) ≡ record { status = first_of (perform U M r (absorb [])).status (suc n); bytes = []; left = r }
      by true true h i = rw (h, i, f, e, add-zero, le-leb r.absorbed U.input_limit (fits h))
      by true false h i = rw (h, i)
      by false o h i = rw h
