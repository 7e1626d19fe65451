-- A list of calls on runs and on transcripts: where each call does to the run that a transcript tells of what it does to the transcript,
-- so does every list of calls. A call is any function's, and each may have rules of its own.
-- Assumes nothing.
use mathlib.Core.Path.{◌≡◌, refl, sym, ap, ◌∙◌}
use mathlib.Core.List.{List, [], ◌∷◌, ◌++◌, append-nil, append_assoc}
use Prim.Native.Nat.{ℕ}
use Rattle.sponge.specs.Transcript.{Reply}
use Rattle.sponge.specs.Streaming.{history, joined, Streams}

-- f is what a call does to a run and g what it does to a transcript, `of` the run that a transcript tells of, `so` all bytes given so far
module _ {C X T : Type 0} (f : X → C → Reply X) (g : T → C → Reply T) (of : T → X) (Fits : T → Type 0) (so : T → List ℕ) where
  pub record One (t : T) (c : C) : Type 0 where
    pub reply_is : f (of t) c ≡ record { status = (g t c).status; bytes = (g t c).bytes; left = of (g t c).left }
    pub fits : Fits (g t c).left
    pub extends : so t ++ (g t c).bytes ≡ so (g t c).left

  pub record Same (t : T) (cs : List C) : Type 0 where
    pub statuses : (history f (of t) cs).statuses ≡ (history g t cs).statuses
    pub run : (history f (of t) cs).left ≡ of (history g t cs).left
    pub bytes : (history f (of t) cs).bytes ≡ (history g t cs).bytes
    pub output : so t ++ joined (history f (of t) cs).bytes ≡ so (history g t cs).left
    pub fits : Fits (history g t cs).left

  pub follows : ((t : T) (c : C) → Fits t → One t c) → (cs : List C) (t : T) → Fits t → Same t cs
  follows one [] t h = record { statuses = refl; run = refl; bytes = refl; output = append-nil (so t); fits = h }
  follows one (c ∷ cs) t h =
      let o : One t c = one t c h in
      let s : Same (g t c).left cs = follows one cs (g t c).left o.fits in
      let rest : List ℕ = joined (history f (of (g t c).left) cs).bytes in
      record {
        statuses = rw (o.reply_is, s.statuses);
        run = ap (λ (r : Reply X). (history f r.left cs).left) o.reply_is ∙ s.run;
        bytes = rw (o.reply_is, s.bytes);
        output = rw o.reply_is (sym (append_assoc (so t) _ rest) ∙ ap (λ (x : List ℕ). x ++ rest) o.extends ∙ s.output);
        fits = s.fits;
      }

  -- from a run that t, which has given nothing, tells of
  pub streams-from : (x : X) (t : T) (cs : List C) → of t ≡ x → so t ≡ [] → Same t cs → Streams f g of so x t cs
  streams-from x t cs e n s = record {
    statuses = rw e at s.statuses;
    bytes = rw e at s.bytes;
    run = rw e at s.run;
    output = rw (e, n) at s.output;
  }
