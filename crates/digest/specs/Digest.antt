-- What the calls on a run of KT128 come to, whatever is read.
-- Assumes nothing.
use Rattle.std.specs.Prelude.{◌≡◌, List, [], ◌∷◌, ◌++◌, ℕ, ◌≤◌, min, length, Result, Ok, Err}
use Rattle.std.specs.declared.io.Error.{Error}
use Rattle.hexadecimal.specs.Hex.{hex_of}
use Rattle.sponge.specs.Status.{done, input_too_long}
use Rattle.sponge.specs.Transcript.{Call.absorb}
use Rattle.turboshake.specs.Transcript.{message_limit}
use Rattle.kangarootwelve.specs.Published.{kt128}
use Rattle.kangarootwelve.specs.Model.{fresh_of, answer_of}
use Rattle.kangarootwelve.specs.declared.Run.{Run}
use Rattle.kangarootwelve.specs.declared.Kt128.{Kt128}
use Rattle.digest.specs.declared.failure.Failure.{Failure}
use Rattle.digest.specs.declared.failure.Failure.TheVariants.{TooLong}

-- how many bytes of a buffer of `most` a read has brought: none where it failed
abbrev pub read_len : Result ℕ Error → ℕ → ℕ
read_len (Ok n) most = min n most
read_len (Err e) most = 0

-- r is the run that the message m leaves, absorbed at once
pub record Left (r : Run) (m : List ℕ) : Type 0 where
  pub fits : length m ≤ message_limit
  pub run : r ≡ (answer_of 168 32 (fresh_of 168 32) (absorb m)).run

-- some message left the run
pub record Absorbed (r : Run) : Type 0 where
  pub message : List ℕ
  pub left : Left r message

-- what an absorb of p answers: 0, and a message left the run that is handed back; or 2, which alone is said to be too long
abbrev pub Absorbs : Kt128 → List ℕ → Result Kt128 Failure → Type 0
Absorbs h p (Ok a) = (answer_of 168 32 h.run (absorb p) ≡ record { status = done; run = a.run }) × Absorbed a.run
Absorbs h p (Err e) = ((answer_of 168 32 h.run (absorb p)).status ≡ input_too_long) × (e ≡ TooLong)

-- some message left some run, and the run's absorb of some piece is answered 2
pub record Refused : Type 0 where
  pub run : Run
  pub absorbed : Absorbed run
  pub piece : List ℕ
  pub refused : (answer_of 168 32 run (absorb piece)).status ≡ input_too_long

-- why the input has no digest: it is called too long only where an absorb was answered 2
abbrev pub Why : Failure → Type 0
Why e = e ≡ TooLong → Refused

-- the status and the output of n bytes once the run is finalized with an empty customization string and squeezed: those of the
-- message that left it
abbrev pub Digests : Run → ℕ → ℕ → List ℕ → Type 0
Digests r n status out = (m : List ℕ) → Left r m → (status ≡ done) × (out ≡ kt128 m [] n)

-- the line is the digits of the message's 32 bytes, and a line end
abbrev pub Written : Run → List ℕ → Type 0
Written r line = (m : List ℕ) → Left r m → line ≡ hex_of (kt128 m [] 32) ++ 10 ∷ []
