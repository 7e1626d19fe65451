-- The numbers of document 01's table that calls on runs and in one go answer. Their constants in code stand in src/status.rt.
-- Assumes nothing.
use Rattle.std.specs.Prelude.{ℕ, zero, suc}
use Rattle.keccak.specs.Permutation as permutation
use Rattle.abreast.specs.Four as four

abbrev pub done : ℕ
done = 0

-- D is 00, or 80 to FF
abbrev pub bad_domain : ℕ
bad_domain = 1

-- the bytes absorbed would pass their limit
abbrev pub input_too_long : ℕ
input_too_long = 2

-- a call of another phase: an absorb or a finalize after the message, a customization piece after the close, the close of a customization phase
-- outside it, a squeeze before the close
abbrev pub wrong_phase : ℕ
wrong_phase = 3

-- the customization string is longer than its limit
abbrev pub customization_too_long : ℕ
customization_too_long = 4

-- no run reached from a fresh one has this phase, these totals and these positions; of a call on a state alone: this is no rate, or no
-- position in a block; on four states: there is no such state, these are no whole words of it, or the strings do not have them
abbrev pub unreachable : ℕ
unreachable = 5

-- the bytes squeezed would pass their limit
abbrev pub output_too_long : ℕ
output_too_long = 6

-- a call in one go asks for 0 bytes, a close fixes an output length of 0, or a presented tag is not 1 to 64 bytes long
abbrev pub bad_length : ℕ
bad_length = 7

-- an event of a day is longer than its limit
abbrev pub event_too_long : ℕ
event_too_long = 8

-- a list of chaining values that has not one for each chunk after S_0, or a digest that is not 32 bytes long (request Q-8)
abbrev pub wrong_length : ℕ
wrong_length = 11

-- a lent slice of four states is not 100 words long
abbrev pub bad_states : ℕ
bad_states = four.bad_states

-- a chunk that is not there or not wholly in the message, or new bytes that are not a chunk (request Q-8)
abbrev pub bad_chunk : ℕ
bad_chunk = 14

-- more than 24 rounds of the permutation
abbrev pub too_many_rounds : ℕ
too_many_rounds = permutation.too_many_rounds

-- the first status of two that is not 0
abbrev pub first_of : ℕ → ℕ → ℕ
first_of zero n = n
first_of (suc m) n = suc m
