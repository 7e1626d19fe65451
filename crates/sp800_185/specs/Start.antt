-- A start: what it absorbs before the message, how many blocks that is, and the run that it leaves.
-- Assumes nothing.
use Rattle.std.specs.Prelude.{List, ◌++◌, ℕ, ◌+◌, ◌*◌, length, replicate}
use Rattle.keccak.specs.Permutation.{last_rounds}
use Rattle.sponge.specs.Cut.{ceil}
use Rattle.sponge.specs.Published.{xor_byte}
use Rattle.sponge.specs.Waiting.{steps}
use Rattle.sponge.specs.Count.{counted, uncounted, Counted, fresh_counted}
use Rattle.hasher.specs.Function.{message_limit}
use Rattle.hasher.specs.declared.Run.{Run}
use Rattle.sp800_185.specs.Published.{left_encode, encode_string, bytepad, cshake_prefix, kmac_name}

-- the most bytes of N and of S (request Q-2's limit of a customization string); a key may have as many as a message
abbrev pub string_limit : ℕ
string_limit = 16777215

abbrev pub key_limit : ℕ
key_limit = message_limit

-- what goes before the message after a start of KMAC with the key K and S
unfoldable pub kmac_prefix : ℕ → List ℕ → List ℕ → List ℕ
kmac_prefix rate k s = cshake_prefix rate kmac_name s ++ bytepad (encode_string k) rate

-- p absorbed by the sponge that counts its permutations, and the run that has absorbed nothing but p
abbrev pub prefixed : ℕ → List ℕ → Counted
prefixed rate p = steps (counted (last_rounds 24)) (uncounted xor_byte) rate fresh_counted p

unfoldable pub start_run : ℕ → List ℕ → Run
start_run rate p = record { lanes = (prefixed rate p).value.0; position = (prefixed rate p).position; phase = 0; absorbed = 0; squeezed = 0; permutations = (prefixed rate p).value.1 }

-- the run that a refused start hands back: of no phase, so that every call answers 5
abbrev pub no_run : Run
no_run = record { lanes = replicate 25 0; position = 0; phase = 3; absorbed = 0; squeezed = 0; permutations = 0 }

-- ---- the blocks of what goes before the message, by the lengths of the strings alone

-- the bytes of encode_string of n bytes
abbrev pub encoded_length : ℕ → ℕ
encoded_length n = length (left_encode (8 * n)) + n

-- the blocks of bytepad of n bytes
abbrev pub padded_blocks : ℕ → ℕ → ℕ
padded_blocks rate n = ceil rate (length (left_encode rate) + n)

-- of N and S, not both empty; and of the key and S
abbrev pub cshake_blocks : ℕ → ℕ → ℕ → ℕ
cshake_blocks rate n s = padded_blocks rate (encoded_length n + encoded_length s)

abbrev pub kmac_blocks : ℕ → ℕ → ℕ → ℕ
kmac_blocks rate k s = padded_blocks rate (encoded_length 4 + encoded_length s) + padded_blocks rate (encoded_length k)
