-- `abreast::permute_in_place` meets its contract. The loop's invariant: the rounds that are left, done to each state, give its result.
-- Assumes nothing.
use mathlib.Core.Path.{◌≡◌}
use Prim.Native.Nat.{ℕ, ◌<◌}
use lib.ListN.{length, drop}
use Rattle.keccak.specs.Permutation.{rounds, last_rounds}
use Rattle.abreast.specs.Four.{state_at}
use Rattle.abreast.proofs.permute_in_place.Given as goal

abbrev pub invariant-loop-rc : goal.invariant-loop-rc
invariant-loop-rc l =
    (length l.states ≡ 100) × ((k : ℕ) → k < 4 → rounds (drop l.rc-index l.rc-items) (state_at k l.states) ≡ last_rounds l.rounds (state_at k l.initial.states))
