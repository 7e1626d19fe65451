-- `inverse::unround::parity` meets its contract, lane by lane.
-- Assumes nothing.
use Rattle.inverse.proofs.Fives.{parity_of}
use Rattle.inverse.proofs.unround.parity.Goals as goal

pub returns : goal.returns
returns c =
    parity_of _ _ c.lane-a0.ensures c.lane-a1.ensures c.lane-a2.ensures c.lane-a3.ensures c.lane-a4.ensures
