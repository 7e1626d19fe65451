use mathlib.Core.Path.{◌≡◌}
use Prim.Native.Nat.{◌≤◌, ◌-◌}
use lib.ListN.{length}
use Rattle.keccak.specs.Permutation.{permuted}
use Rattle.sponge.specs.Model.{absorb_bytes}
use Rattle.kangarootwelve.specs.Leaves.{states_bytes}
use Rattle.kangarootwelve.proofs.leaves.absorb_values.Given as goal

abbrev pub invariant-loop-j : goal.invariant-loop-j
invariant-loop-j l =
    (l.p ≤ l.strength.rate) × (length l.value ≡ length l.initial.value)
    × (absorb_bytes permuted l.strength.rate (record { value = l.node; position = l.p }) (states_bytes (length l.initial.value) l.states (l.count - l.j) l.j)
    ≡ absorb_bytes permuted l.strength.rate (record { value = l.initial.node; position = l.position }) (states_bytes (length l.initial.value) l.states l.count 0))
