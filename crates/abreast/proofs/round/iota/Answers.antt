-- `abreast::round::iota` meets its contract.
-- Assumes nothing.
use Rattle.abreast.proofs.Planes.{one_iota}
use Rattle.abreast.proofs.round.iota.Goals as goal

pub returns : goal.returns
returns c =
    let a = c.args in
    one_iota a.j a.rc a.a.now c.requires.1 c.requires.0
