-- `inverse::unround::theta_parities` meets its contract, word by word.
-- Assumes nothing.
use Rattle.inverse.specs.Inverse.{theta_parities}
use Rattle.inverse.proofs.Fives.{row_of}
use Rattle.inverse.proofs.unround.theta_parities.Goals as goal

pub returns : goal.returns
unfolding theta_parities
returns c =
    row_of _ c.theta_parity-p0.ensures c.theta_parity-p1.ensures c.theta_parity-p2.ensures c.theta_parity-p3.ensures c.theta_parity-p4.ensures
