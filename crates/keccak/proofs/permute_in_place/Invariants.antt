-- `keccak::permute_in_place` meets its contract. The loop's invariant: the rounds that are left, done to `a`, give the result.
-- Assumes nothing.
use mathlib.Core.Path.{◌≡◌}
use lib.ListN.{drop}
use Rattle.keccak.specs.Permutation.{rounds, last_rounds}
use Rattle.keccak.proofs.permute_in_place.Given as goal

abbrev pub invariant-loop-rc : goal.invariant-loop-rc
invariant-loop-rc l = rounds (drop l.rc-index l.rc-items) l.a ≡ last_rounds l.rounds l.initial.a
