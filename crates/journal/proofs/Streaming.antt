-- Demand 3 for days, over every list of calls from a fresh one: each call follows the book by KT128's laws, with the event's own status and its
-- length encoding, and so does every list.
-- Assumes nothing.
use mathlib.Core.Path.{◌≡◌, refl, sym, ap, ◌∙◌}
use mathlib.Core.List.{List, [], ◌∷◌, ◌++◌, append-nil, append_assoc}
use Prim.Native.Nat.{ℕ, zero, suc, ◌<◌}
use native.Mathlib.Omega.{arith}
use Rattle.sponge.specs.Transcript.{Call, Call.absorb, Call.customize, Call.finalize, Call.finish, Call.squeeze, Phase, Phase.absorbing, Phase.customizing, Phase.squeezing, Transcript, fresh_transcript, Reply, status_at}
use Rattle.sponge.specs.Runs as runs
use Rattle.sponge.specs.Runs.{run_of}
use Rattle.sponge.specs.Streaming.{history, joined, output_so}
use Rattle.sponge.proofs.Following.{One, Same, follows}
use Rattle.sponge.proofs.Joining.{transcribe_done, transcribe-refused}
use Rattle.sponge.proofs.Streaming as generic
use Rattle.sponge.proofs.Streaming.{Fits, fits_fresh, Laws}
use Rattle.sponge.proofs.PieceStatus as pieces
use Rattle.kangarootwelve.specs.Transcript as kt
use Rattle.kangarootwelve.specs.Transcript.{customized_of}
use Rattle.kangarootwelve.specs.Published.{kt128}
use Rattle.kangarootwelve.specs.Model.{Nodes, machine}
use Rattle.kangarootwelve.specs.Claims.{told_count}
use Rattle.kangarootwelve.proofs.Laws as kt-laws
use Rattle.kangarootwelve.proofs.Streaming.{told-customized, count_told}
use Rattle.kangarootwelve.proofs.Claims.{defined_told}
use Rattle.kangarootwelve.proofs.Answers.{output-published}
use Rattle.journal.specs.Published.{framed, message}
use Rattle.journal.specs.Transcript.{own_status, framed_call, rules_at, transcribe}
use Rattle.journal.specs.Model.{day_of, fresh_day, performed, answer_of, reply_of}
use Rattle.journal.specs.Streaming.{told, ran, added, taken, digest_of, Streaming}
use Rattle.journal.specs.declared.Journal.{Journal}
use Rattle.journal.proofs.Messages.{message-append}

pub rate_positive : 0 < 168
rate_positive = omega arith

pub laws : Laws (kt.rules 168 32) (machine 168 32)
laws = kt-laws.laws 168 32 rate_positive

-- ---- each call follows the book

-- the day that a book tells of
abbrev pub day_told : Transcript (List ℕ) → Journal
day_told t = day_of (run_of (kt.rules 168 32) (machine 168 32) t)

pub one : (t : Transcript (List ℕ)) (c : Call (List ℕ)) → Fits (kt.rules 168 32) t
    → One reply_of transcribe day_told (Fits (kt.rules 168 32)) (output_so (kt.rules 168 32)) t c
unfolding reply_of answer_of performed transcribe rules_at
one t c h =
    let own : ℕ → ℕ = λ n. own_status c in
    let o = generic.one (rules_at c) (machine 168 32) (pieces.laws (kt.rules 168 32) (machine 168 32) own laws) t (framed_call c) (pieces.fits_with (kt.rules 168 32) own t h) in
    record {
      reply_is = ap (λ (y : Reply (runs.Run Nodes)). record { status = y.status; bytes = y.bytes; left = day_of y.left }) o.reply_is;
      fits = pieces.fits_without (kt.rules 168 32) own _ o.fits;
      extends = o.extends;
    }

-- ---- the book's F is the message of the events taken

added-message : (t : Transcript (List ℕ)) (c : Call (List ℕ)) → (transcribe t c).left.absorbed ≡ t.absorbed ++ message (added (transcribe t c).status c)
unfolding transcribe
added-message t c = by c (status_at (rules_at c) t (framed_call c)) refl
  where
    by : (c : Call (List ℕ)) (v : ℕ) → status_at (rules_at c) t (framed_call c) ≡ v
        → (transcribe t c).left.absorbed ≡ t.absorbed ++ message (added (transcribe t c).status c)
    by c (suc v) e = rw (transcribe-refused (rules_at c) t (framed_call c) v e) (sym (append-nil t.absorbed))
    by (absorb e) zero z = rw (transcribe_done (rules_at (absorb e)) t (absorb (framed e)) z) (ap (λ (l : List ℕ). t.absorbed ++ l) (sym (append-nil (framed e))))
    by (customize p) zero z = rw (transcribe_done (rules_at (customize p)) t (customize p) z) (sym (append-nil t.absorbed))
    by finish zero z = rw (transcribe_done (rules_at finish) t finish z) (sym (append-nil t.absorbed))
    by (finalize a) zero z = rw (transcribe_done (rules_at (finalize a)) t (finalize a) z) (sym (append-nil t.absorbed))
    by (squeeze k) zero z = rw (transcribe_done (rules_at (squeeze k)) t (squeeze k) z) (sym (append-nil t.absorbed))

taken-message : (cs : List (Call (List ℕ))) (t : Transcript (List ℕ)) → (history transcribe t cs).left.absorbed ≡ t.absorbed ++ message (taken t cs)
taken-message [] t = sym (append-nil t.absorbed)
taken-message (c ∷ cs) t =
    let rest : List (List ℕ) = taken (transcribe t c).left cs in
    taken-message cs (transcribe t c).left
    ∙ ap (λ (l : List ℕ). l ++ message rest) (added-message t c)
    ∙ append_assoc t.absorbed (message (added (transcribe t c).status c)) (message rest)
    ∙ ap (λ (l : List ℕ). t.absorbed ++ l) (sym (message-append (added (transcribe t c).status c) rest))

output-digest : (f : List ℕ) (h : Phase (List ℕ)) (n : ℕ) (es : List (List ℕ)) → f ≡ message es → output_so (kt.rules 168 32) (record { absorbed = f; phase = h; squeezed = n }) ≡ digest_of h es n
output-digest f absorbing n es e = refl
output-digest f (customizing c) n es e = refl
output-digest f (squeezing name) n es e = output-published 168 32 f name n ∙ ap (λ (m : List ℕ). kt128 m name n) e

-- ---- the list theorem

same : (cs : List (Call (List ℕ))) → Same reply_of transcribe day_told (Fits (kt.rules 168 32)) (output_so (kt.rules 168 32)) fresh_transcript cs
same cs = follows reply_of transcribe day_told (Fits (kt.rules 168 32)) (output_so (kt.rules 168 32)) one cs fresh_transcript (fits_fresh (kt.rules 168 32))

-- the bytes given, joined, by what the book holds
pub streaming-output : (cs : List (Call (List ℕ))) → joined (ran cs).bytes ≡ output_so (kt.rules 168 32) (told cs).left
unfolding fresh_day
streaming-output cs = rw (laws.absorb-nothing 0 (machine 168 32).fresh) at (same cs).output

pub streaming : (cs : List (Call (List ℕ))) → Streaming cs
unfolding fresh_day
streaming cs =
    let s = same cs in
    let e : (machine 168 32).absorb 0 (machine 168 32).fresh [] ≡ (machine 168 32).fresh = laws.absorb-nothing 0 (machine 168 32).fresh in
    let m : (told cs).left.absorbed ≡ message (taken fresh_transcript cs) = taken-message cs fresh_transcript in
    let day : (ran cs).left ≡ day_told (told cs).left = rw e at s.run in
    let n : (ran cs).left.run.permutations ≡ told_count 168 32 (told cs).left = ap (λ (j : Journal). j.run.permutations) day ∙ count_told 168 32 rate_positive (told cs).left s.fits in
    record {
      statuses = rw e at s.statuses;
      bytes = rw e at s.bytes;
      day = day;
      absorbed = m;
      output = streaming-output cs ∙ output-digest (told cs).left.absorbed (told cs).left.phase (told cs).left.squeezed (taken fresh_transcript cs) m;
      permutations = n ∙ sym (defined_told 168 32 rate_positive (told cs).left);
      totals = n;
    }

-- the third total of the day left is the length of the book's name
pub customized-told : (cs : List (Call (List ℕ))) → (ran cs).left.run.customized ≡ customized_of (told cs).left.phase
customized-told cs = ap (λ (j : Journal). j.run.customized) (streaming cs).day ∙ told-customized 168 32 (told cs).left

-- no list of calls passes the limits
pub told-fits : (cs : List (Call (List ℕ))) → Fits (kt.rules 168 32) (told cs).left
told-fits cs = (same cs).fits

pub equal_transcripts : (cs ds : List (Call (List ℕ))) → (told cs).left ≡ (told ds).left → (ran cs).left ≡ (ran ds).left
equal_transcripts cs ds e = (streaming cs).day ∙ ap day_told e ∙ sym (streaming ds).day
