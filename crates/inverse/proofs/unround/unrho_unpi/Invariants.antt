-- `inverse::unround::unrho_unpi` meets its contract: the lanes before i are written.
-- Assumes nothing.
use Prim.Native.Nat.{◌+◌, ◌*◌}
use Rattle.keccak.specs.State.{lane}
use Rattle.keccak.specs.Round.{offsets}
use Rattle.inverse.specs.Inverse.{rotr}
use Rattle.inverse.proofs.Filling.{Filled}
use Rattle.inverse.proofs.unround.unrho_unpi.Given as goal

abbrev pub invariant-loop-i : goal.invariant-loop-i
invariant-loop-i l = Filled (λ x y. rotr (lane l.a y (2 * x + 3 * y)) (lane offsets x y)) l.i l.b
