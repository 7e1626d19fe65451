-- The law of joining (demand 3) for days, as one statement about a list of calls from a fresh day: events, each appended whole, pieces
-- of the name, both closes and squeezes, refused ones included. Request Q-1: the law reads over whole events.
-- Assumes nothing.
use Rattle.std.specs.Prelude.{◌≡◌, List, [], ◌∷◌, ◌++◌, ℕ, zero, suc}
use Rattle.sponge.specs.Transcript.{Call, Call.absorb, Call.customize, Call.finalize, Call.finish, Call.squeeze, Phase, Phase.absorbing, Phase.customizing, Phase.squeezing, Transcript, fresh_transcript}
use Rattle.sponge.specs.Runs.{run_of}
use Rattle.sponge.specs.Streaming.{History, history, joined}
use Rattle.kangarootwelve.specs.Transcript as kangarootwelve
use Rattle.kangarootwelve.specs.Model.{machine}
use Rattle.kangarootwelve.specs.Claims.{defined_count, told_count}
use Rattle.journal.specs.Published.{message, digest}
use Rattle.journal.specs.Transcript.{transcribe}
use Rattle.journal.specs.Model.{day_of, fresh_day, reply_of}
use Rattle.journal.specs.declared.Journal.{Journal}

-- the calls' history by the book, and by the code's own days
abbrev pub told : List (Call (List ℕ)) → History (Transcript (List ℕ))
told cs = history transcribe fresh_transcript cs

abbrev pub ran : List (Call (List ℕ)) → History Journal
ran cs = history reply_of fresh_day cs

-- the event that a call with this status adds to a day
abbrev pub added : ℕ → Call (List ℕ) → List (List ℕ)
added zero (absorb e) = e ∷ []
added zero (customize p) = []
added zero (finalize name) = []
added zero finish = []
added zero (squeeze k) = []
added (suc n) c = []

-- the events that are taken, in order: those that the book answers 0
abbrev pub taken : Transcript (List ℕ) → List (Call (List ℕ)) → List (List ℕ)
taken t [] = []
taken t (c ∷ cs) = added (transcribe t c).status c ++ taken (transcribe t c).left cs

-- the first n bytes of the digest of the events es, once the day is closed
abbrev pub digest_of : Phase (List ℕ) → List (List ℕ) → ℕ → List ℕ
digest_of absorbing es n = []
digest_of (customizing c) es n = []
digest_of (squeezing name) es n = digest es name n

-- the statuses and the bytes of each call are the book's; the day left is the one that the book tells of, a function of the book alone; the
-- book's F is the message of the events taken; the bytes given, joined, are the first bytes of their digest; and the permutations of the day left are
-- the definition's for the book, and what its totals tell
pub record Streaming (cs : List (Call (List ℕ))) : Type 0 where
  pub statuses : (ran cs).statuses ≡ (told cs).statuses
  pub bytes : (ran cs).bytes ≡ (told cs).bytes
  pub day : (ran cs).left ≡ day_of (run_of (kangarootwelve.rules 168 32) (machine 168 32) (told cs).left)
  pub absorbed : (told cs).left.absorbed ≡ message (taken fresh_transcript cs)
  pub output : joined (ran cs).bytes ≡ digest_of (told cs).left.phase (taken fresh_transcript cs) (told cs).left.squeezed
  pub permutations : (ran cs).left.run.permutations ≡ defined_count 168 32 (told cs).left
  pub totals : (ran cs).left.run.permutations ≡ told_count 168 32 (told cs).left
