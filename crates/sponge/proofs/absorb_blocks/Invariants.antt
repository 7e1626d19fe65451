use mathlib.Core.Path.{◌≡◌}
use Prim.Native.Nat.{◌≤◌}
use lib.ListN.{length}
use Rattle.keccak.specs.Permutation.{last_rounds}
use Rattle.sponge.specs.Model.{absorb_bytes}
use Rattle.sponge.proofs.absorb_blocks.Given as goal

-- what is left of the piece takes the state in hand to where the whole piece takes the first
abbrev pub invariant-loop-rest : goal.invariant-loop-rest
invariant-loop-rest l =
    (l.p ≤ l.rate)
    × (absorb_bytes (last_rounds l.rounds) l.rate (record { value = l.lanes; position = l.p }) l.rest ≡ absorb_bytes (last_rounds l.rounds) l.rate (record { value = l.initial.lanes; position = l.initial.p }) l.initial.rest)

abbrev pub decreases-loop-rest : goal.decreases-loop-rest
decreases-loop-rest l = length l.rest
