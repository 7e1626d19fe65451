-- Four states of Keccak-p[1600] in one slice of 100 words, lane by lane (request Q-6), and their permutation.
-- Assumes nothing.
use Rattle.std.specs.Prelude.{List, cond, ℕ, ◌+◌, ◌*◌, ◌/◌, ◌%◌, length, get_or, eqb}
use Rattle.keccak.specs.State.{from}
use Rattle.keccak.specs.Permutation.{rounds_status, last_rounds}

-- state j of the four: its lane i is word 4 i + j
unfoldable pub state_at : ℕ → List ℕ → List ℕ
state_at j s = from 0 25 (λ i. get_or s (4 * i + j) 0)

-- the slice of four states
unfoldable pub interleaved : (ℕ → List ℕ) → List ℕ
interleaved states = from 0 100 (λ w. get_or (states (w % 4)) (w / 4) 0)

-- the number of document 01's table for a lent slice that is not 100 words long, which request Q-6 adds; it comes before all others
abbrev pub bad_states : ℕ
bad_states = 12

-- the status of a slice of so many words
abbrev pub states_status : ℕ → ℕ
states_status words = cond (eqb words 100) 0 bad_states

-- the status of n rounds of a slice of so many words: 12, then 16
abbrev pub permute_status : ℕ → ℕ → ℕ
permute_status words n = cond (eqb words 100) (rounds_status n) bad_states

-- Keccak-p[1600, n] of each of the four; a slice of another length is left as it is, and so is one that is asked for more than 24 rounds
unfoldable pub permuted_four : ℕ → List ℕ → List ℕ
permuted_four n s = cond (eqb (length s) 100) (interleaved (λ j. last_rounds n (state_at j s))) s
