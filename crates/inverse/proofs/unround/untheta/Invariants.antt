-- `inverse::unround::untheta` meets its contract: the lanes before i are written.
-- Assumes nothing.
use lib.Bits.{bit_xor}
use Rattle.keccak.specs.State.{lane}
use Rattle.inverse.specs.Inverse.{effect}
use Rattle.inverse.proofs.Filling.{Filled}
use Rattle.inverse.proofs.unround.untheta.Given as goal

abbrev pub invariant-loop-i : goal.invariant-loop-i
invariant-loop-i l = Filled (λ x y. bit_xor (lane l.a x y) (effect l.p x)) l.i l.b
