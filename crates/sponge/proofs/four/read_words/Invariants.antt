use mathlib.Core.Path.{◌≡◌}
use Prim.Native.Nat.{◌*◌}
use lib.ListN.{length, take}
use Rattle.abreast.specs.Four.{state_at}
use Rattle.sponge.specs.Published.{bytes_from}
use Rattle.sponge.proofs.four.read_words.Given as goal

abbrev pub invariant-loop-q : goal.invariant-loop-q
invariant-loop-q l = (length l.out ≡ length l.initial.out) × (take (8 * l.q) l.out ≡ bytes_from (state_at l.j l.states) 0 (8 * l.q))
