-- `inverse::unround::unchi_lane` meets its contract, lane by lane.
-- Assumes nothing.
use Rattle.inverse.proofs.Fives.{unchi_lane_of}
use Rattle.inverse.proofs.unround.unchi_lane.Goals as goal

pub returns : goal.returns
returns c =
    unchi_lane_of c.lane-b0.ensures c.lane-b1.ensures c.lane-b2.ensures c.lane-b3.ensures c.lane-b4.ensures
