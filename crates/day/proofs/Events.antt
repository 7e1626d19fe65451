-- The day's events in order: appended one after the other, from the laws of the crate journal, and put together in a buffer. In the code they are
-- a slice of slices.
-- Assumes nothing.
use mathlib.Core.Path.{◌≡◌, refl, sym, ap, subst, ◌∙◌}
use mathlib.Core.List.{List, [], ◌∷◌, ◌++◌}
use Prim.Native.Nat.{ℕ, ◌≤◌, zero-le}
use Prim.Native.Nat.{◌+◌, ◌<◌}
use lib.ListN.{length, take, get_or}
use Rattle.std.proofs.Common.{Bor, map}
use Rattle.std.proofs.lemmas.List.{take_more, map-append}
use Rattle.sponge.specs.Transcript.{Call.absorb, Call.finalize, Call.squeeze}
use Rattle.turboshake.specs.Transcript.{message_limit}
use Rattle.kangarootwelve.specs.Published.{kt128}
use Rattle.kangarootwelve.specs.Model.{hash_status, hash_output}
use Rattle.kangarootwelve.proofs.Answers.{hash_done}
use Rattle.journal.specs.Published as published
use Rattle.journal.specs.Published.{framed, message}
use Rattle.journal.specs.Model.{fresh_day, answer_of, output_of}
use Rattle.journal.specs.declared.Journal.{Journal}
use Rattle.journal.specs.declared.Answer.{Answer}
use Rattle.journal.proofs.Messages.{message_next}
use Rattle.journal.proofs.Pieces.{day_after, day_ended, fresh-after, append-taken, finalize-taken, squeeze-taken}

-- ---- the events so far

abbrev pub bytes : List (Bor (List ℕ)) → List (List ℕ)
bytes = map (λ (e : Bor (List ℕ)). e.now)

abbrev pub event_at : List (Bor (List ℕ)) → ℕ → List ℕ
event_at events i = (get_or events i (record { ref_ptr = (0, 0); now = [] })).now

so_far : (events : List (Bor (List ℕ))) (i : ℕ) → i < length events → bytes (take (i + 1) events) ≡ bytes (take i events) ++ event_at events i ∷ []
so_far events i more = rw (take_more events i (record { ref_ptr = (0, 0); now = [] }) more, map-append) refl

-- ---- the shift's part

-- the day has taken these events
pub record Took (day : Journal) (events : List (List ℕ)) : Type 0 where
  pub fits : length (message events) ≤ message_limit
  pub day_is : day ≡ day_after events

pub fresh_took : (day : Journal) → day ≡ fresh_day → Took day []
fresh_took day e = record { fits = zero-le; day_is = e ∙ fresh-after }

pub append_took : (day : Journal) (es : List (List ℕ)) (e : List ℕ) (a : Answer) → Took day es → a ≡ answer_of day (absorb e) → a.status ≡ 0 → Took a.journal (es ++ e ∷ [])
append_took day es e a t q z =
    let w : a ≡ answer_of (day_after es) (absorb e) = q ∙ ap (λ (j : Journal). answer_of j (absorb e)) t.day_is in
    let k = append-taken es e t.fits (sym (ap (λ (x : Answer). x.status) w) ∙ z) in
    record { fits = k.0; day_is = ap (λ (x : Answer). x.journal) w ∙ k.1 }

pub append_next : (events : List (Bor (List ℕ))) (i : ℕ) → i < length events → (day : Journal) (a : Answer) → Took day (bytes (take i events))
    → a ≡ answer_of day (absorb (event_at events i)) → a.status ≡ 0 → Took a.journal (bytes (take (i + 1) events))
append_next events i more day a t q z =
    subst (λ (es : List (List ℕ)). Took a.journal es) (sym (so_far events i more)) (append_took day (bytes (take i events)) (event_at events i) a t q z)

-- f is what the finalize answers, s and o the squeeze's status and output
pub digest : (day : Journal) (es : List (List ℕ)) (name out : List ℕ) (f : Answer) (s : ℕ) (o : List ℕ) → Took day es → f ≡ answer_of day (finalize name) → f.status ≡ 0
    → s ≡ (answer_of f.journal (squeeze (length out))).status → o ≡ output_of f.journal out → s ≡ 0 → o ≡ published.digest es name (length out)
digest day es name out f s o t q z v u w =
    let b : f ≡ answer_of (day_after es) (finalize name) = q ∙ ap (λ (j : Journal). answer_of j (finalize name)) t.day_is in
    let k = finalize-taken es name t.fits (sym (ap (λ (x : Answer). x.status) b) ∙ z) in
    let d : f.journal ≡ day_ended es name = ap (λ (x : Answer). x.journal) b ∙ k.1 in
    u ∙ ap (λ (j : Journal). output_of j out) d
    ∙ squeeze-taken es name out t.fits k.0 (sym (ap (λ (j : Journal). (answer_of j (squeeze (length out))).status) d) ∙ sym v ∙ w)

-- ---- the clerk's part

-- an event and its encoding put after others
pub put_next : {before after : List ℕ} (es : List (List ℕ)) (e : List ℕ) → before ≡ message es → after ≡ before ++ framed e → after ≡ message (es ++ e ∷ [])
put_next es e h q = q ∙ ap (λ (l : List ℕ). l ++ framed e) h ∙ sym (message_next es e)

pub put_more : (events : List (Bor (List ℕ))) (i : ℕ) → i < length events → {before after : List ℕ} → before ≡ message (bytes (take i events))
    → after ≡ before ++ framed (event_at events i) → after ≡ message (bytes (take (i + 1) events))
put_more events i more h q = put_next (bytes (take i events)) (event_at events i) h q ∙ ap message (sym (so_far events i more))

-- the bytes m hashed in one go, which are the message of the events; s and o are the call's status and output
pub hash-message : (m name out : List ℕ) (s : ℕ) (o : List ℕ) (es : List (List ℕ)) → m ≡ message es → s ≡ hash_status (length m) (length name) (length out) → o ≡ hash_output 168 32 m name out
    → s ≡ 0 → o ≡ published.digest es name (length out)
hash-message m name out s o es h v u w = u ∙ hash_done 168 32 m name out (sym v ∙ w) ∙ ap (λ (l : List ℕ). kt128 l name (length out)) h
