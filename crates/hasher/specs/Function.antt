-- A function that is the sponge: its published output, and what the transcript of a run, document 01's book, says of it.
-- Assumes nothing.
use Rattle.std.specs.Prelude.{List, ℕ}
use Rattle.keccak.specs.Permutation.{last_rounds}
use Rattle.sponge.specs.Waiting.{steps}
use Rattle.sponge.specs.Published.{xor_byte, sponge}
use Rattle.sponge.specs.Status.{done}
use Rattle.sponge.specs.Transcript.{Customization.none, Rules, Phase.absorbing, Phase.customizing, Phase.squeezing, Transcript}
use Rattle.sponge.specs.Model.{pad_with, after_bytes}
use Rattle.sponge.specs.Count.{counted, uncounted, Counted, fresh_counted}

-- the most bytes of a message, 2^34 - 1 (request Q-2)
abbrev pub message_limit : ℕ
message_limit = 17179869183

-- the most bytes of output, where a function has no limit of its own
abbrev pub long_output : ℕ
long_output = 4294967295

-- the rate, the rounds of the permutation, the byte that follows the message and the status of the close's argument, each by that argument,
-- and the most bytes of output
pub record Function (A : Type 0) : Type 0 where
  pub rate : ℕ
  pub rounds : ℕ
  pub byte : A → ℕ
  pub argument : A → ℕ
  pub output_limit : ℕ

module _ {A : Type 0} (F : Function A) where
  abbrev pub permutation : List ℕ → List ℕ
  permutation = last_rounds F.rounds

  -- n bytes of output for the message m, closed with a
  unfoldable pub output : List ℕ → A → ℕ → List ℕ
  output m a n = sponge permutation F.rate m (F.byte a) n

  -- the published function, the status of the argument, and the limits; any piece is taken, and there is no customization phase
  unfoldable pub rules : Rules A
  rules = record {
    output = output;
    argument = F.argument;
    piece = λ n. done;
    customization = none;
    input_limit = message_limit;
    output_limit = λ a. F.output_limit;
  }

  -- ---- the permutations of the definition so far (request Q-10): the bytes joined go through the sponge that counts, and no formula over totals is used

  abbrev pub absorbed_counted : List ℕ → Counted
  absorbed_counted m = steps (counted permutation) (uncounted xor_byte) F.rate fresh_counted m

  abbrev pub squeezed_counted : List ℕ → A → ℕ → Counted
  squeezed_counted m a n = after_bytes (counted permutation) F.rate n (pad_with (counted permutation) F.rate (uncounted xor_byte) (absorbed_counted m) (F.byte a))

  -- there is no customization phase, and so no permutation in one
  abbrev pub permutations_of : Transcript A → ℕ
  permutations_of t = elim t.phase [ absorbing ↦ (absorbed_counted t.absorbed).value.1 | customizing c ↦ 0 | squeezing a ↦ (squeezed_counted t.absorbed a t.squeezed).value.1 ]
