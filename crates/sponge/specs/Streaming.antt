-- The law of joining (demand 3) as one statement about a list of calls from a fresh run.
-- Assumes nothing.
use Rattle.std.specs.Prelude.{◌≡◌, List, [], ◌∷◌, ◌++◌, ℕ}
use Rattle.sponge.specs.Transcript.{Call, Transcript, fresh_transcript, Rules, Reply, output_of, transcribe}
use Rattle.sponge.specs.Runs.{Run, Machine, fresh_run, perform, run_of}

-- the status and the bytes of each call, refused ones too, and what is left
pub record History (X : Type 0) : Type 0 where
  pub statuses : List ℕ
  pub bytes : List (List ℕ)
  pub left : X

abbrev pub history : {C X : Type 0} → (X → C → Reply X) → X → List C → History X
history f x [] = record { statuses = []; bytes = []; left = x }
history f x (c ∷ cs) = record {
  statuses = (f x c).status ∷ (history f (f x c).left cs).statuses;
  bytes = (f x c).bytes ∷ (history f (f x c).left cs).bytes;
  left = (history f (f x c).left cs).left;
}

abbrev pub joined : List (List ℕ) → List ℕ
joined [] = []
joined (b ∷ bs) = b ++ joined bs

-- f is what a call does to a run and g what it does to a transcript, `of` the run that a transcript tells of, `so` the bytes that it has given so far.
-- The statuses and the bytes of each call are the transcript's, the run left is the one that the transcript tells of, and the bytes joined are those that
-- the transcript has given
pub record Streams {C X T : Type 0} (f : X → C → Reply X) (g : T → C → Reply T) (of : T → X) (so : T → List ℕ) (x : X) (t : T) (cs : List C) : Type 0 where
  pub statuses : (history f x cs).statuses ≡ (history g t cs).statuses
  pub bytes : (history f x cs).bytes ≡ (history g t cs).bytes
  pub run : (history f x cs).left ≡ of (history g t cs).left
  pub output : joined (history f x cs).bytes ≡ so (history g t cs).left

-- all bytes that a transcript has given: the first bytes of the published output
abbrev pub output_so : {A : Type 0} → Rules A → Transcript A → List ℕ
output_so U t = output_of U t t.squeezed

module _ {S A : Type 0} (U : Rules A) (M : Machine S A) where
  -- the calls' history by the transcript, and by the run
  abbrev pub told : List (Call A) → History (Transcript A)
  told cs = history (transcribe U) fresh_transcript cs

  abbrev pub ran : List (Call A) → History (Run S)
  ran cs = history (perform U M) (fresh_run U M) cs

  abbrev pub Streaming : List (Call A) → Type 0
  Streaming cs = Streams (perform U M) (transcribe U) (run_of U M) (output_so U) (fresh_run U M) fresh_transcript cs
