-- `abreast::round::put` meets its contract.
-- Assumes nothing.
use native.Mathlib.Omega.{arith}
use Rattle.abreast.proofs.Planes.{one_plane}
use Rattle.abreast.proofs.round.put.Goals as goal

pub returns : goal.returns
returns c =
    let a = c.args in
    one_plane a.j a.y a.b a.a.now (omega arith) (omega arith) c.requires.a_len.0 _ _ _ _ _ _ _ _ _ _
    (omega arith) (omega arith) (omega arith) (omega arith) (omega arith)
    c.chi.ensures c.chi-2.ensures c.chi-3.ensures c.chi-4.ensures c.chi-5.ensures
