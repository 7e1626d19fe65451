-- What the transcript of a run, document 01's book, says of KT, over the rate and the length of a chaining value.
-- Assumes nothing.
use Rattle.std.specs.Prelude.{List, cond, ℕ, ◌^◌, ◌<◌, length, leb}
use Rattle.sponge.specs.Status.{done, customization_too_long}
use Rattle.sponge.specs.Callable.{Slice}
use Rattle.sponge.specs.Lending.{Lending, Lending.nothing, Lending.words, CallWith}
use Rattle.sponge.specs.Transcript.{Call, Call.absorb, Call.customize, Call.finalize, Call.finish, Call.squeeze, Phase, Phase.absorbing, Phase.customizing, Phase.squeezing, Customization.up_to, Rules}
use Rattle.turboshake.specs.Transcript.{message_limit, output_limit}
use Rattle.kangarootwelve.specs.Published.{kt}

-- the most bytes of a customization string, 2^24 - 1 (request Q-2)
abbrev pub customization_limit : ℕ
customization_limit = 16777215

-- the status of a customization string of n bytes
unfoldable pub customization_status : ℕ → ℕ
customization_status n = cond (leb n customization_limit) done customization_too_long

-- the third total at a phase of the transcript: the bytes of C so far, and once closed those of all of it
abbrev pub customized_of : Phase (List ℕ) → ℕ
customized_of absorbing = 0
customized_of (customizing c) = length c
customized_of (squeezing c) = length c

-- a call that a caller can make: what it lends is a slice, the output too
abbrev pub Callable : Call (List ℕ) → Type 0
Callable (absorb p) = Slice p
Callable (customize p) = Slice p
Callable (finalize c) = Slice c
Callable finish = Unit {0}
Callable (squeeze k) = k < 2 ^ 63

-- and with a slice: that of a message feed alone, of fewer words than 2^60
abbrev pub Lends : Call (List ℕ) → Lending → Type 0
Lends c nothing = Unit {0}
Lends (absorb p) (words n) = n < 2 ^ 60
Lends (customize p) (words n) = ⊥
Lends (finalize c) (words n) = ⊥
Lends finish (words n) = ⊥
Lends (squeeze k) (words n) = ⊥

abbrev pub CallableWith : CallWith (List ℕ) → Type 0
CallableWith c = Callable c.call × Lends c.call c.lending

-- the published function, the status of C, and the limits; any piece is taken; C is taken in pieces too, and is what they are, joined; the
-- bytes absorbed are those of M alone
unfoldable pub rules : ℕ → ℕ → Rules (List ℕ)
rules rate chaining = record {
  output = kt rate chaining;
  argument = λ c. customization_status (length c);
  piece = λ n. done;
  customization = up_to customization_limit (λ c. c);
  input_limit = message_limit;
  output_limit = λ c. output_limit;
}
