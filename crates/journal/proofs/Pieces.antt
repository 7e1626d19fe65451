-- What a caller knows of calls in a row on days: where each is answered 0, the day has taken the events, and its digest is the published one.
-- Assumes nothing.
use mathlib.Core.Path.{◌≡◌, sym, ap, ◌∙◌}
use mathlib.Core.List.{List, [], ◌∷◌, ◌++◌}
use Prim.Native.Nat.{ℕ, ◌≤◌, zero-le}
use native.Mathlib.Nat.{zero-add}
use borrow.Author.Tests.{leb-true}
use lib.ListN.{length, length-append}
use Rattle.sponge.specs.Transcript.{Call, Call.absorb, Call.finalize, Call.squeeze, Phase, Phase.absorbing, Phase.squeezing, Transcript, Reply, status_at, written, given, lent}
use Rattle.sponge.proofs.FirstStatus.{first_zero}
use Rattle.sponge.proofs.Streaming.{cond-zero, Fits}
use Rattle.sponge.proofs.Joining.{transcribe_done, transcribe-status}
use Rattle.turboshake.specs.Transcript.{message_limit}
use Rattle.kangarootwelve.specs.Transcript as kt
use Rattle.kangarootwelve.specs.Transcript.{customization_status}
use Rattle.kangarootwelve.specs.Model.{Nodes, machine}
use Rattle.kangarootwelve.proofs.Answers.{argument_is, limits_are, output-published}
use Rattle.journal.specs.Published.{framed, message, digest}
use Rattle.journal.specs.Transcript.{own_status, framed_call, rules_at, transcribe}
use Rattle.journal.specs.Model.{day_of, fresh_day, answer_of, reply_of, output_of}
use Rattle.journal.specs.declared.Journal.{Journal}
use Rattle.journal.proofs.Messages.{message_next}
use Rattle.journal.proofs.Streaming.{laws, day_told, one}

-- a call on the day of a book within the limits: where it is answered 0, it did what the book writes
record Done (t : Transcript (List ℕ)) (c : Call (List ℕ)) : Type 0 where
  status : status_at (rules_at c) t (framed_call c) ≡ 0
  reply : reply_of (day_told t) c ≡ record { status = 0; bytes = given (rules_at c) t (framed_call c); left = day_told (written (rules_at c) t (framed_call c)) }

done : (t : Transcript (List ℕ)) (c : Call (List ℕ)) → Fits (kt.rules 168 32) t → (reply_of (day_told t) c).status ≡ 0 → Done t c
unfolding transcribe
done t c h e =
    let o = (one t c h).reply_is in
    let z : status_at (rules_at c) t (framed_call c) ≡ 0 =
    sym (transcribe-status (rules_at c) t (framed_call c)) ∙ sym (ap (λ (y : Reply Journal). y.status) o) ∙ e in
    record { status = z; reply = o ∙ rw (transcribe_done (rules_at c) t (framed_call c) z) }

-- the book of the events es, with nothing squeezed
abbrev book : List (List ℕ) → Phase (List ℕ) → Transcript (List ℕ)
book es h = record { absorbed = message es; phase = h; squeezed = 0 }

open_fits : (es : List (List ℕ)) → length (message es) ≤ message_limit → Fits (kt.rules 168 32) (book es absorbing)
open_fits es l = record { input_fits = rw (limits_are 168 32).0 l; output-fits = zero-le; phase-taken = tt }

ended_fits : (es : List (List ℕ)) (name : List ℕ) → length (message es) ≤ message_limit → customization_status (length name) ≡ 0 → Fits (kt.rules 168 32) (book es (squeezing name))
ended_fits es name l t = record { input_fits = rw (limits_are 168 32).0 l; output-fits = zero-le; phase-taken = argument_is 168 32 name ∙ t }

-- the day after the events es, and after its finalize with the name
unfoldable pub day_after : List (List ℕ) → Journal
day_after es = day_told (book es absorbing)

unfoldable pub day_ended : List (List ℕ) → List ℕ → Journal
day_ended es name = day_told (book es (squeezing name))

pub fresh-after : fresh_day ≡ day_after []
unfolding fresh_day day_after
fresh-after = ap (λ (s : Nodes). day_of (record { state = s; phase = 0; absorbed = 0; squeezed = 0 })) (sym (laws.absorb-nothing 0 (machine 168 32).fresh))

pub append-taken : (es : List (List ℕ)) (e : List ℕ) → length (message es) ≤ message_limit → (answer_of (day_after es) (absorb e)).status ≡ 0
    → (length (message (es ++ e ∷ [])) ≤ message_limit) × ((answer_of (day_after es) (absorb e)).journal ≡ day_after (es ++ e ∷ []))
unfolding day_after reply_of rules_at
append-taken es e l z =
    let q : Done (book es absorbing) (absorb e) = done (book es absorbing) (absorb e) (open_fits es l) z in (
      rw (message_next es e, length-append (message es) (framed e), ← (limits_are 168 32).0) (leb-true _ _ (cond-zero _ _ (first_zero (own_status (absorb e)) _ q.status).1)),
      ap (λ (y : Reply Journal). y.left) q.reply ∙ ap (λ (m : List ℕ). day_told (record { absorbed = m; phase = absorbing; squeezed = 0 })) (sym (message_next es e)),
    )

pub finalize-taken : (es : List (List ℕ)) (name : List ℕ) → length (message es) ≤ message_limit → (answer_of (day_after es) (finalize name)).status ≡ 0
    → (customization_status (length name) ≡ 0) × ((answer_of (day_after es) (finalize name)).journal ≡ day_ended es name)
unfolding day_after day_ended reply_of rules_at
finalize-taken es name l z =
    let q : Done (book es absorbing) (finalize name) = done (book es absorbing) (finalize name) (open_fits es l) z in
    (sym (argument_is 168 32 name) ∙ q.status, ap (λ (y : Reply Journal). y.left) q.reply)

pub squeeze-taken : (es : List (List ℕ)) (name out : List ℕ) → length (message es) ≤ message_limit → customization_status (length name) ≡ 0 → (answer_of (day_ended es name) (squeeze (length out))).status ≡ 0
    → output_of (day_ended es name) out ≡ digest es name (length out)
unfolding day_ended reply_of answer_of output_of rules_at
squeeze-taken es name out l t z =
    let q : Done (book es (squeezing name)) (squeeze (length out)) = done (book es (squeezing name)) (squeeze (length out)) (ended_fits es name l t) z in
    ap (λ (y : Reply Journal). lent y.status y.bytes out) q.reply ∙ rw (zero-add (length out)) (output-published 168 32 (message es) name (length out))
