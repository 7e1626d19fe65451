-- The table of round constants obeys FIPS 202's rule, and each constant is a word.
-- Assumes nothing.
use mathlib.Core.Path.{◌≡◌, refl}
use mathlib.Core.Bool.{Bool}
use Prim.Native.Nat.{ℕ, ◌^◌, ◌<◌}
use lib.Dec.{ltb, ltb→lt}
use lib.ListN.{get_or}
use Rattle.keccak.specs.State.{from}
use Rattle.keccak.specs.Permutation.{round_constants}
use Rattle.keccak.specs.Rules.{shifted, register, rc, bits_below, round_constant}
use Rattle.keccak.proofs.Table.{at}

-- the whole table: the constants of rounds 0 to 23, as the shift register gives them
pub constants_rule : round_constants ≡ from 0 24 round_constant
unfolding from round_constant bits_below rc register shifted
constants_rule = refl

word_sized : ℕ → ℕ → Bool
word_sized k x = ltb x (2 ^ 64)

pub constant_word : (k : ℕ) → k < 24 → get_or round_constants k 0 < 2 ^ 64
unfolding word_sized
constant_word k h = ltb→lt (get_or round_constants k 0) (2 ^ 64) (at word_sized round_constants tt k h)
