-- `inverse::unpermute_in_place` meets its contract. The loop's invariant: the rounds that are left, undone to `a`, give the result.
-- Assumes nothing.
use mathlib.Core.Path.{◌≡◌}
use Prim.Native.Nat.{◌-◌}
use lib.ListN.{take, drop}
use Rattle.keccak.specs.Permutation.{round_constants}
use Rattle.inverse.specs.Inverse.{unrounds, last_unrounds}
use Rattle.inverse.proofs.unpermute_in_place.Given as goal

abbrev pub invariant-loop-left : goal.invariant-loop-left
invariant-loop-left l = unrounds (take l.left (drop (24 - l.rounds) round_constants)) l.a ≡ last_unrounds l.rounds l.initial.a
