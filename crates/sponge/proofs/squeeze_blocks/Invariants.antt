use mathlib.Core.Path.{◌≡◌}
use Prim.Native.Nat.{◌-◌, ◌≤◌}
use lib.ListN.{length, take}
use Rattle.keccak.specs.Permutation.{last_rounds}
use Rattle.sponge.specs.Model.{squeeze_bytes, after_bytes}
use Rattle.sponge.proofs.squeeze_blocks.Given as goal

abbrev pub invariant-loop-i : goal.invariant-loop-i
invariant-loop-i l =
    (l.i ≤ length l.out) × (length l.out ≡ length l.initial.out) × (l.p ≤ l.rate)
    × (record { value = l.lanes; position = l.p } ≡ after_bytes (last_rounds l.rounds) l.rate l.i (record { value = l.initial.lanes; position = l.initial.p }))
    × (take l.i l.out ≡ squeeze_bytes (last_rounds l.rounds) l.rate l.i (record { value = l.initial.lanes; position = l.initial.p }))

abbrev pub decreases-loop-i : goal.decreases-loop-i
decreases-loop-i l = length l.initial.out - l.i
