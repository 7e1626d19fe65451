use mathlib.Core.Path.{◌≡◌}
use Prim.Native.Nat.{◌+◌, ◌*◌}
use lib.ListN.{drop}
use Rattle.sponge.specs.Cut.{puts}
use Rattle.sponge.specs.Published.{xor_byte}
use Rattle.sponge.proofs.block.xor_words.Given as goal

abbrev pub invariant-loop-q : goal.invariant-loop-q
invariant-loop-q l = puts xor_byte l.lanes (8 * (l.first + l.q)) (drop (8 * l.q) l.s) ≡ puts xor_byte l.initial.lanes (8 * l.first) l.s
