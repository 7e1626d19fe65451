-- `inverse::unround::unchi` meets its contract: the lanes before i are written.
-- Assumes nothing.
use Rattle.inverse.specs.Inverse.{unchi_at}
use Rattle.inverse.proofs.Filling.{Filled}
use Rattle.inverse.proofs.unround.unchi.Given as goal

abbrev pub invariant-loop-i : goal.invariant-loop-i
invariant-loop-i l = Filled (unchi_at l.a) l.i l.b
