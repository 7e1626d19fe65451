-- Calls in a row on every machine that meets `Laws`: a message absorbed in whatever pieces, finalized and squeezed.
-- Assumes nothing.
use mathlib.Core.Path.{◌≡◌, ◌∙◌}
use mathlib.Core.List.{List, [], ◌++◌}
use Prim.Native.Nat.{ℕ, ◌+◌, ◌≤◌, ◌<◌, zero-le}
use native.Mathlib.Nat.{zero-add}
use native.Mathlib.Omega.{arith}
use borrow.Author.Tests.{le-leb, lt-leb}
use lib.ListN.{length, length-append}
use Rattle.sponge.specs.Transcript.{Call.absorb, Call.finalize, Call.squeeze, Phase, Phase.absorbing, Phase.squeezing, Transcript, Rules}
use Rattle.sponge.specs.Runs.{Run, Machine, perform, run_of}
use Rattle.sponge.proofs.Streaming.{Taken, Fits, Laws, performs}
use Rattle.sponge.proofs.Joining.{transcribe_done, transcribe-refused}

-- a transcript that nothing was squeezed in
abbrev told : {A : Type 0} → List ℕ → Phase A → Transcript A
told m h = record { absorbed = m; phase = h; squeezed = 0 }

fits : {A : Type 0} (U : Rules A) (m : List ℕ) (h : Phase A) → length m ≤ U.input_limit → Taken U h → Fits U (told m h)
fits U m h l t = record { input_fits = l; output-fits = zero-le; phase-taken = t }

module _ {S A : Type 0} (U : Rules A) (M : Machine S A) where
  -- the run after the message m, and after its finalize with a
  abbrev pub absorbed_run : List ℕ → Run S
  absorbed_run m = run_of U M (told m absorbing)

  abbrev pub finalized_run : List ℕ → A → Run S
  finalized_run m a = run_of U M (told m (squeezing a))

  module _ (L : Laws U M) where
    pub absorb_piece : (m p : List ℕ) → U.piece (length p) ≡ 0 → length (m ++ p) ≤ U.input_limit
        → perform U M (absorbed_run m) (absorb p) ≡ record { status = 0; bytes = []; left = absorbed_run (m ++ p) }
    absorb_piece m p f l =
        let n : length m + length p ≤ U.input_limit = rw length-append at l in
        performs U M L (told m absorbing) (absorb p) (fits U m absorbing (omega arith) tt)
        ∙ rw (transcribe_done U (told m absorbing) (absorb p) (rw (f, le-leb (length m + length p) U.input_limit n)))

    pub absorb_long : (m p : List ℕ) → U.piece (length p) ≡ 0 → length m ≤ U.input_limit → U.input_limit < length (m ++ p)
        → perform U M (absorbed_run m) (absorb p) ≡ record { status = 2; bytes = []; left = absorbed_run m }
    absorb_long m p f h l =
        let n : U.input_limit < length m + length p = rw length-append at l in
        performs U M L (told m absorbing) (absorb p) (fits U m absorbing h tt)
        ∙ rw (transcribe-refused U (told m absorbing) (absorb p) 1 (rw (f, lt-leb (length m + length p) U.input_limit n)))

    pub finalize-run : (m : List ℕ) (a : A) → length m ≤ U.input_limit → U.argument a ≡ 0
        → perform U M (absorbed_run m) (finalize a) ≡ record { status = 0; bytes = []; left = finalized_run m a }
    finalize-run m a h e =
        performs U M L (told m absorbing) (finalize a) (fits U m absorbing h tt)
        ∙ rw (transcribe_done U (told m absorbing) (finalize a) e)

    -- the published output, or a refusal
    pub squeeze-run : (m : List ℕ) (a : A) (n : ℕ) → length m ≤ U.input_limit → U.argument a ≡ 0 → n ≤ U.output_limit a
        → perform U M (finalized_run m a) (squeeze n) ≡ record { status = 0; bytes = U.output m a n; left = run_of U M (record { absorbed = m; phase = squeezing a; squeezed = n }) }
    squeeze-run m a n h t l =
        performs U M L (told m (squeezing a)) (squeeze n) (fits U m (squeezing a) h t)
        ∙ rw (transcribe_done U (told m (squeezing a)) (squeeze n) (rw (zero-add, le-leb n (U.output_limit a) l)), zero-add)

    pub squeeze_long : (m : List ℕ) (a : A) (n : ℕ) → length m ≤ U.input_limit → U.argument a ≡ 0 → U.output_limit a < n
        → perform U M (finalized_run m a) (squeeze n) ≡ record { status = 6; bytes = []; left = finalized_run m a }
    squeeze_long m a n h t l =
        performs U M L (told m (squeezing a)) (squeeze n) (fits U m (squeezing a) h t)
        ∙ rw (transcribe-refused U (told m (squeezing a)) (squeeze n) 5 (rw (zero-add, lt-leb n (U.output_limit a) l)))
