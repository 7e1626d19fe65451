-- `inverse::unround::parities` meets its contract, word by word.
-- Assumes nothing.
use Rattle.inverse.specs.Inverse.{parities}
use Rattle.inverse.proofs.Fives.{row_of}
use Rattle.inverse.proofs.unround.parities.Goals as goal

pub returns : goal.returns
unfolding parities
returns c =
    row_of _ c.parity-c0.ensures c.parity-c1.ensures c.parity-c2.ensures c.parity-c3.ensures c.parity-c4.ensures
