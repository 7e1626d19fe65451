-- What the functions of SP 800-185 are given and what the transcript of a run, document 01's book, says of them after a start: the book's strings and key
-- are in what went before the message.
-- Assumes nothing.
use Rattle.std.specs.Prelude.{List, [], ◌++◌, Bool, true, false, cond, ◌&&◌, ℕ, ◌*◌, eqb, leb}
use Rattle.keccak.specs.Permutation.{last_rounds}
use Rattle.sponge.specs.Published.{xor_byte, sponge}
use Rattle.sponge.specs.Model.{pad_with, after_bytes}
use Rattle.sponge.specs.Count.{counted, uncounted, Counted}
use Rattle.sponge.specs.Status.{done, input_too_long, bad_length, output_too_long, first_of}
use Rattle.sponge.specs.Transcript.{Customization.none, Rules, Phase.absorbing, Phase.customizing, Phase.squeezing, Transcript}
use Rattle.hasher.specs.Function.{message_limit, long_output}
use Rattle.sp800_185.specs.Published.{right_encode, cshake_byte}
use Rattle.sp800_185.specs.Start.{prefixed}

-- the rate; whether the close says an output length after the message; whether it fixes that length; the fewest and the most blocks before a message, which `most_is`
-- of Family.antt holds to the longest strings; and the length that is said and kept, by the close's argument
pub record Function (A : Type 0) : Type 0 where
  pub rate : ℕ
  pub says : Bool
  pub fixes : Bool
  pub least : ℕ
  pub most : ℕ
  pub said : A → ℕ

-- cSHAKE, of strings that are not both empty: the close has no argument and says nothing
abbrev pub cshake_at : ℕ → ℕ → Function (Unit {0})
cshake_at rate most = record { rate = rate; says = false; fixes = false; least = 1; most = most; said = λ u. 0 }

-- KMAC: the close has the output length as its argument
abbrev pub kmac_at : ℕ → ℕ → Function ℕ
kmac_at rate most = record { rate = rate; says = true; fixes = true; least = 2; most = most; said = λ l. l }

-- KMACXOF: the close has no argument and says 0
abbrev pub kmacxof_at : ℕ → ℕ → Function (Unit {0})
kmacxof_at rate most = record { rate = rate; says = true; fixes = false; least = 2; most = most; said = λ u. 0 }

-- the status of an output length: 1 byte to as many as are ever read
abbrev pub length_status : ℕ → ℕ
length_status l = cond (eqb l 0) bad_length (cond (leb l long_output) done output_too_long)

-- in one go, after a start whose status is s: of a message of m bytes, and l bytes asked
abbrev pub whole_status : ℕ → ℕ → ℕ → ℕ
whole_status s m l = first_of (cond (leb m message_limit) done input_too_long) (first_of s (length_status l))

module _ {A : Type 0} (F : Function A) where
  -- the status of the close's argument
  abbrev pub argument : A → ℕ
  argument a = cond F.fixes (length_status (F.said a)) done

  -- by the output length that a run keeps, 0 before the close and where none is fixed: what the close absorbs after the message, the lengths that a
  -- closed run keeps, and the read limit
  abbrev pub ending : ℕ → List ℕ
  ending l = cond F.says (right_encode (8 * l)) []

  abbrev pub keeps : ℕ → Bool
  keeps l = cond F.fixes (leb 1 l && leb l long_output) (eqb l 0)

  abbrev pub limit : ℕ → ℕ
  limit l = cond F.fixes l long_output

  -- after p, what goes before the message
  module _ (p : List ℕ) where
    -- n bytes of output for the message x, closed with a
    unfoldable pub output : List ℕ → A → ℕ → List ℕ
    output x a n = sponge (last_rounds 24) F.rate (p ++ (x ++ ending (F.said a))) cshake_byte n

    unfoldable pub rules : Rules A
    rules = record { output = output; argument = argument; piece = λ n. done; customization = none; input_limit = message_limit; output_limit = λ a. limit (F.said a) }

    -- the permutations of the definition so far (request Q-10): p and the bytes joined go through the sponge that counts
    abbrev pub absorbed_counted : List ℕ → Counted
    absorbed_counted x = prefixed F.rate (p ++ x)

    abbrev pub squeezed_counted : List ℕ → A → ℕ → Counted
    squeezed_counted x a n = after_bytes (counted (last_rounds 24)) F.rate n (pad_with (counted (last_rounds 24)) F.rate (uncounted xor_byte) (absorbed_counted (x ++ ending (F.said a))) cshake_byte)

    abbrev pub permutations_of : Transcript A → ℕ
    permutations_of t = elim t.phase [ absorbing ↦ (absorbed_counted t.absorbed).value.1 | customizing c ↦ 0 | squeezing a ↦ (squeezed_counted t.absorbed a t.squeezed).value.1 ]
