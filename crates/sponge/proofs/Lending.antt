-- Lists of calls that lend a slice beside their arguments: those of plain calls among them, and one that is refused by its slice changes nothing.
-- Assumes nothing.
use mathlib.Core.Path.{◌≡◌, refl, ap}
use mathlib.Core.List.{List, [], ◌∷◌, append-nil}
use Prim.Native.Nat.{ℕ, zero, suc}
use Rattle.sponge.specs.Callable.{All}
use Rattle.sponge.specs.Transcript.{Call, fresh_transcript, Rules, Reply, transcribe}
use Rattle.sponge.specs.Runs.{Machine, fresh_run, perform, run_of}
use Rattle.sponge.specs.Streaming.{History, history, output_so, Streams}
use Rattle.sponge.specs.Lending.{CallWith, lending_status, unless_refused, answer_with, plainly}
use Rattle.sponge.proofs.Following.{One, Same, follows, streams-from}
use Rattle.sponge.proofs.Streaming.{Fits, fits_fresh, Laws, one, fresh-told}

-- ---- one call

module _ {A X T : Type 0} (f : X → Call A → Reply X) (g : T → Call A → Reply T) (of : T → X) (Fits : T → Type 0) (so : T → List ℕ) where
  one_by : (n : ℕ) (t : T) (c : CallWith A) → lending_status c.lending ≡ n → Fits t → One f g of Fits so t c.call → One (answer_with f) (answer_with g) of Fits so t c
  one_by zero t c e h o = record { reply_is = rw e o.reply_is; fits = rw e o.fits; extends = rw e o.extends }
  one_by (suc n) t c e h o = record { reply_is = rw e; fits = rw e h; extends = rw e (append-nil (so t)) }

  pub one_with : ((t : T) (c : Call A) → Fits t → One f g of Fits so t c) → (t : T) (c : CallWith A) → Fits t → One (answer_with f) (answer_with g) of Fits so t c
  one_with o t c h = one_by (lending_status c.lending) t c refl h (o t c.call h)

-- ---- the list theorem over them

module _ {S A : Type 0} (U : Rules A) (M : Machine S A) (L : Laws U M) where
  same_with : (cs : List (CallWith A)) → Same (answer_with (perform U M)) (answer_with (transcribe U)) (run_of U M) (Fits U) (output_so U) fresh_transcript cs
  same_with cs =
      follows (answer_with (perform U M)) (answer_with (transcribe U)) (run_of U M) (Fits U) (output_so U)
      (one_with (perform U M) (transcribe U) (run_of U M) (Fits U) (output_so U) (one U M L)) cs fresh_transcript (fits_fresh U)

  pub streams_with : (cs : List (CallWith A)) → Streams (answer_with (perform U M)) (answer_with (transcribe U)) (run_of U M) (output_so U) (fresh_run U M) fresh_transcript cs
  streams_with cs =
      streams-from (answer_with (perform U M)) (answer_with (transcribe U)) (run_of U M) (Fits U) (output_so U) (fresh_run U M) fresh_transcript cs (fresh-told U M L) refl (same_with cs)

  -- no list of calls passes the limits
  pub told-fits_with : (cs : List (CallWith A)) → Fits U (history (answer_with (transcribe U)) fresh_transcript cs).left
  told-fits_with cs = (same_with cs).fits

-- runs held in another form: g does to `held x` what f does to x
module _ {A X R : Type 0} (f : X → Call A → Reply X) (g : R → Call A → Reply R) (held : X → R)
    (same : (x : X) (c : Call A) → g (held x) c ≡ record { status = (f x c).status; bytes = (f x c).bytes; left = held (f x c).left }) where
  pub held_with : (x : X) (c : CallWith A) → answer_with g (held x) c ≡ record { status = (answer_with f x c).status; bytes = (answer_with f x c).bytes; left = held (answer_with f x c).left }
  held_with x c = by (lending_status c.lending)
    where
      by : (n : ℕ) → unless_refused n (held x) (g (held x) c.call)
          ≡ record { status = (unless_refused n x (f x c.call)).status; bytes = (unless_refused n x (f x c.call)).bytes; left = held (unless_refused n x (f x c.call)).left }
      by zero = same x c.call
      by (suc n) = refl

-- ---- plain calls, and the calls of a list that its slices do not refuse

module _ {A X : Type 0} (f : X → Call A → Reply X) where
  pub history-plainly : (cs : List (Call A)) (x : X) → history (answer_with f) x (plainly cs) ≡ history f x cs
  history-plainly [] x = refl
  history-plainly (c ∷ cs) x =
      ap (λ (h : History X). record { statuses = (f x c).status ∷ h.statuses; bytes = (f x c).bytes ∷ h.bytes; left = h.left }) (history-plainly cs (f x c).left)

abbrev taken_by : {A : Type 0} → ℕ → Call A → List (Call A) → List (Call A)
taken_by zero c cs = c ∷ cs
taken_by (suc n) c cs = cs

abbrev pub taken : {A : Type 0} → List (CallWith A) → List (Call A)
taken [] = []
taken (c ∷ cs) = taken_by (lending_status c.lending) c.call (taken cs)

module _ {A X : Type 0} (f : X → Call A → Reply X) where
  pub left_taken : (cs : List (CallWith A)) (x : X) → (history (answer_with f) x cs).left ≡ (history f x (taken cs)).left
  left_taken [] x = refl
  left_taken (c ∷ cs) x = by (lending_status c.lending) (left_taken cs)
    where
      by : (n : ℕ) → ((y : X) → (history (answer_with f) y cs).left ≡ (history f y (taken cs)).left)
          → (history (answer_with f) (unless_refused n x (f x c.call)).left cs).left ≡ (history f x (taken_by n c.call (taken cs))).left
      by zero rest = rest (f x c.call).left
      by (suc n) rest = rest x

-- a caller can make them
module _ {A : Type 0} (can : Call A → Type 0) (canWith : CallWith A → Type 0) where
  pub taken_can : ((c : CallWith A) → canWith c → can c.call) → (cs : List (CallWith A)) → All canWith cs → All can (taken cs)
  taken_can each [] h = tt
  taken_can each (c ∷ cs) h = by (lending_status c.lending) (taken_can each cs h.1)
    where
      by : (n : ℕ) → All can (taken cs) → All can (taken_by n c.call (taken cs))
      by zero rest = (each c h.0, rest)
      by (suc n) rest = rest
