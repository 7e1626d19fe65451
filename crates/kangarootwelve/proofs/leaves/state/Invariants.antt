use mathlib.Core.Path.{◌≡◌}
use lib.ListN.{length, take}
use Rattle.abreast.specs.Four.{state_at}
use Rattle.kangarootwelve.proofs.leaves.state.Given as goal

abbrev pub invariant-loop-i : goal.invariant-loop-i
invariant-loop-i l = (length l.lanes ≡ 25) × (take l.i l.lanes ≡ take l.i (state_at l.j l.states))
