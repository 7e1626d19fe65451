-- The table of rotation offsets obeys the walking rule, and each offset is below 64, so that it is itself modulo 64.
-- Assumes nothing.
use mathlib.Core.Path.{◌≡◌, refl}
use mathlib.Core.Bool.{Bool}
use Prim.Native.Nat.{ℕ, ◌%◌, ◌<◌}
use native.Mathlib.Nat.{mod-eq_of_lt}
use lib.Dec.{ltb, ltb→lt, eqb, eqb→eq}
use lib.ListN.{get_or}
use Rattle.keccak.specs.State.{lane, from}
use Rattle.keccak.specs.Round.{offsets}
use Rattle.keccak.specs.Rules.{walk, step_offset, walked}
use Rattle.keccak.proofs.Table.{at}

-- the whole table is what the walk of 24 steps leaves: lane (0, 0) is 0, and each other lane has its step's offset
pub offsets-walked : offsets ≡ walked 24
unfolding walked walk step_offset
offsets-walked = refl

follows : ℕ → ℕ → Bool
follows t x = eqb (lane offsets (walk t).0 (walk t).1) (step_offset t)

-- the rule at each step
pub offsets_rule : (t : ℕ) → t < 24 → lane offsets (walk t).0 (walk t).1 ≡ step_offset t
unfolding follows walk step_offset from
offsets_rule t h = eqb→eq (lane offsets (walk t).0 (walk t).1) (step_offset t) (at follows (from 0 24 (λ k. k)) tt t h)

small : ℕ → ℕ → Bool
small k x = ltb x 64

pub offset_small : (k : ℕ) → k < 25 → get_or offsets k 0 < 64
unfolding small
offset_small k h = ltb→lt (get_or offsets k 0) 64 (at small offsets tt k h)

pub offset_places : (k : ℕ) → k < 25 → get_or offsets k 0 % 64 ≡ get_or offsets k 0
offset_places k h = mod-eq_of_lt (offset_small k h)
