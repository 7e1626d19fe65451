use mathlib.Core.Path.{◌≡◌}
use Prim.Native.Nat.{◌≤◌, ◌<◌, ◌-◌, ◌%◌}
use Rattle.kangarootwelve.proofs.Abreast.{Left}
use Rattle.kangarootwelve.proofs.leaves.absorb_chunks.Given as goal

abbrev pub invariant-loop-i : goal.invariant-loop-i
invariant-loop-i l = (l.i ≤ 8192) × (l.i % 8 ≡ 0) × (l.p ≤ l.strength.rate) × (l.i < 8192 → l.p ≡ l.strength.rate) × Left l.strength.rate l.chunks l.initial.states l.states l.p l.i

abbrev pub decreases-loop-i : goal.decreases-loop-i
decreases-loop-i l = 8192 - l.i
