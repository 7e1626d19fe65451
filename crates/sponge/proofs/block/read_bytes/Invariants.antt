use mathlib.Core.Path.{◌≡◌}
use lib.ListN.{length, take}
use Rattle.sponge.specs.Published.{bytes_from}
use Rattle.sponge.proofs.block.read_bytes.Given as goal

abbrev pub invariant-loop-i : goal.invariant-loop-i
invariant-loop-i l = (length l.out ≡ length l.initial.out) × (take l.i l.out ≡ bytes_from l.lanes l.at l.i)
