-- What the transcript of a day, document 01's book, says. It is that of a run of KT128, whose customization string is the station's name;
-- `absorb e` is the call that appends the event e, and what it adds to the bytes absorbed is the event with its length encoding (request Q-1);
-- `customize p` is a piece of the name (request Q-2).
-- Assumes nothing.
use Rattle.std.specs.Prelude.{List, cond, ℕ, length, leb}
use Rattle.sponge.specs.Status.{done, event_too_long}
use Rattle.sponge.specs.Transcript as sponge
use Rattle.sponge.specs.Transcript.{Call, Call.absorb, Call.customize, Call.finalize, Call.finish, Call.squeeze, Transcript, Rules, Reply, with_pieces}
use Rattle.kangarootwelve.specs.Transcript as kangarootwelve
use Rattle.journal.specs.Published.{framed}

-- the most bytes of an event
abbrev pub event_limit : ℕ
event_limit = 65535

-- the status of an event of n bytes
unfoldable pub event_status : ℕ → ℕ
event_status n = cond (leb n event_limit) done event_too_long

-- the status that a call has by itself: 8 for an event above its limit, 0 for any other call
abbrev pub own_status : Call (List ℕ) → ℕ
own_status (absorb e) = event_status (length e)
own_status (customize p) = done
own_status (finalize name) = done
own_status finish = done
own_status (squeeze k) = done

-- a call on a day as one on the run below: of a day `absorb e` appends the event e, of the run it absorbs bytes
abbrev pub framed_call : Call (List ℕ) → Call (List ℕ)
framed_call (absorb e) = absorb (framed e)
framed_call (customize p) = customize p
framed_call (finalize name) = finalize name
framed_call finish = finish
framed_call (squeeze k) = squeeze k

-- the rules at a call: those of KT128 (rate 168, chaining values of 32 bytes), but a piece's own status, which `status_of` asks after 3 and
-- before 2, is that of the event, whatever the length n of the piece: the piece is longer than the event
unfoldable pub rules_at : Call (List ℕ) → Rules (List ℕ)
rules_at c = with_pieces (kangarootwelve.rules 168 32) (λ n. own_status c)

-- what the book answers to a call, and what it is then
unfoldable pub transcribe : Transcript (List ℕ) → Call (List ℕ) → Reply (Transcript (List ℕ))
transcribe t c = sponge.transcribe (rules_at c) t (framed_call c)
