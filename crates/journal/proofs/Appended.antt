-- Events within their limit, appended in order, the name, and a squeeze: what the book then tells is what KT128's book tells of the events with
-- their length encodings.
-- Assumes nothing.
use mathlib.Core.Path.{◌≡◌, refl, sym, ap, ◌∙◌}
use mathlib.Core.List.{List, [], ◌∷◌, map}
use Prim.Native.Nat.{ℕ, ◌≤◌}
use lib.ListN.{length}
use Rattle.sponge.specs.Transcript as sponge
use Rattle.sponge.specs.Transcript.{Call, Call.absorb, Call.customize, Call.finalize, Call.squeeze, Phase, Phase.absorbing, Phase.customizing, Phase.squeezing, Transcript, fresh_transcript, Reply}
use Rattle.sponge.specs.Streaming.{history}
use Rattle.sponge.proofs.PieceStatus.{Agree, transcribe_same}
use Rattle.sponge.proofs.Reachable.{calls_to, AllTaken, reach}
use Rattle.sponge.proofs.Streaming.{Fits}
use Rattle.kangarootwelve.specs.Transcript as kt
use Rattle.kangarootwelve.specs.Model.{machine}
use Rattle.kangarootwelve.proofs.Answers.{piece-taken}
use Rattle.journal.specs.Published.{framed, message}
use Rattle.journal.specs.Transcript.{event_limit, own_status, framed_call, rules_at, transcribe}
use Rattle.journal.specs.Streaming.{told}
use Rattle.journal.proofs.Cases.{event_0}

-- each event is within its limit
abbrev pub EachFits : List (List ℕ) → Type 0
EachFits [] = Unit {0}
EachFits (e ∷ es) = (length e ≤ event_limit) × EachFits es

-- the events appended in order, then nothing, or the name and n bytes squeezed
abbrev pub appends : List (List ℕ) → Phase (List ℕ) → ℕ → List (Call (List ℕ))
appends es h n = calls_to (kt.rules 168 32) (machine 168 32) es h n

-- any call but the append of a long event
call-told : (t : Transcript (List ℕ)) (c : Call (List ℕ)) → Agree (kt.rules 168 32) (λ n. own_status c) (framed_call c)
    → transcribe t c ≡ sponge.transcribe (kt.rules 168 32) t (framed_call c)
unfolding transcribe rules_at
call-told t c e = sym (transcribe_same (kt.rules 168 32) (λ n. own_status c) t (framed_call c) e)

appends_told : (es : List (List ℕ)) (h : Phase (List ℕ)) (n : ℕ) (t : Transcript (List ℕ)) → EachFits es
    → (history transcribe t (appends es h n)).left ≡ (history (sponge.transcribe (kt.rules 168 32)) t (appends (map framed es) h n)).left
appends_told [] absorbing n t each = refl
appends_told [] (customizing name) n t each = ap (λ (y : Reply (Transcript (List ℕ))). y.left) (call-told t (customize name) tt)
appends_told [] (squeezing name) n t each =
    ap (λ (y : Reply (Transcript (List ℕ))). (transcribe y.left (squeeze n)).left) (call-told t (finalize name) tt)
    ∙ ap (λ (y : Reply (Transcript (List ℕ))). y.left) (call-told (sponge.transcribe (kt.rules 168 32) t (finalize name)).left (squeeze n) tt)
appends_told (e ∷ es) h n t each =
    ap (λ (y : Reply (Transcript (List ℕ))). (history transcribe y.left (appends es h n)).left) (call-told t (absorb e) (piece-taken 168 32 (length (framed e)) ∙ sym (event_0 (length e) each.0)))
    ∙ appends_told es h n (sponge.transcribe (kt.rules 168 32) t (absorb (framed e))).left each.1

all_taken : (ps : List (List ℕ)) → AllTaken (kt.rules 168 32) (machine 168 32) ps
all_taken [] = tt
all_taken (p ∷ ps) = (piece-taken 168 32 (length p), all_taken ps)

pub told_appends : (es : List (List ℕ)) (h : Phase (List ℕ)) (n : ℕ) → EachFits es → Fits (kt.rules 168 32) (record { absorbed = message es; phase = h; squeezed = n })
    → (told (appends es h n)).left ≡ record { absorbed = message es; phase = h; squeezed = n }
told_appends es h n each fits =
    appends_told es h n fresh_transcript each ∙ reach (kt.rules 168 32) (machine 168 32) (map framed es) h n fits (all_taken (map framed es))
