-- Blocks of four sponges whose states stand in one slice (request Q-6): bytes of four strings go in, and bytes of one state come out, whole words of them.
-- Assumes nothing.
use Rattle.std.specs.Prelude.{List, Bool, cond, ◌&&◌, ℕ, ◌+◌, ◌*◌, ◌/◌, ◌%◌, length, take, drop, eqb, leb, ltb}
use Rattle.abreast.specs.Four.{state_at, interleaved, states_status}
use Rattle.sponge.specs.Cut.{puts}
use Rattle.sponge.specs.Published.{xor_byte, bytes_from}
use Rattle.sponge.specs.Status.{done, unreachable, first_of}
use Rattle.sponge.specs.Transcript.{lent}

-- string k of four of one length in a row
unfoldable pub string_at : ℕ → List ℕ → List ℕ
string_at k s = take (length s / 4) (drop (length s / 4 * k) s)

-- whole words, and no more of them than a state has
abbrev pub whole_words : ℕ → Bool
whole_words n = leb n 200 && eqb (n % 8) 0

-- the status of XORing n bytes of each string from byte i on: 12, then 5 where a state cannot take n bytes or a string does not have them
unfoldable pub xor_status : ℕ → ℕ → ℕ → ℕ → ℕ
xor_status words bytes i n = first_of (states_status words) (cond (whole_words n && leb (i + n) (bytes / 4)) done unreachable)

-- the bytes of string k are XORed into the start of state k; what is refused is left as it is
unfoldable pub xored_four : List ℕ → List ℕ → ℕ → ℕ → List ℕ
xored_four s strings i n =
    lent (xor_status (length s) (length strings) i n) (interleaved (λ k. puts xor_byte (state_at k s) 0 (take n (drop i (string_at k strings))))) s

-- the status of reading the first n bytes of state j: 12, then 5 where there is no such state or it cannot give n bytes
unfoldable pub read_status : ℕ → ℕ → ℕ → ℕ
read_status words j n = first_of (states_status words) (cond (ltb j 4 && whole_words n) done unreachable)

-- what the lent output holds after a read, which held `out` before
unfoldable pub read_output : List ℕ → ℕ → List ℕ → List ℕ
read_output s j out = lent (read_status (length s) j (length out)) (bytes_from (state_at j s) 0 (length out)) out
