use mathlib.Core.Path.{sym, ◌∙◌}
use native.Mathlib.Omega.{arith}
use Rattle.abreast.proofs.Four.{upto_none, upto_one, upto_all}
use Rattle.kangarootwelve.proofs.leaves.xor_bytes.Goals as goal

pub loop-j-init : goal.loop-j-init
loop-j-init c = upto_none _ _ c.requires.0

pub xor_byte-requires : goal.xor_byte-requires
xor_byte-requires c = (c.loop-j.invariant.words, c.loop-j-test.true, c.requires.1)

pub loop-j-preserved : goal.loop-j-preserved
loop-j-preserved c =
    let at = c.loop-j in
    upto_one at.j _ _ at.states _ c.loop-j-test.true at.invariant c.xor_byte.ensures

pub shape_of-states : goal.shape_of-states
shape_of-states c = c.loop-j.invariant.words ∙ sym c.requires.0

pub returns : goal.returns
returns c =
    let at = c.loop-j in
    upto_all at.j _ _ at.states (omega arith) at.invariant
