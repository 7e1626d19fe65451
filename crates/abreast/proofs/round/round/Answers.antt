-- `abreast::round::round` meets its contract. The loop's invariant: the states below j went through the round, and the others are as they were.
-- Assumes nothing.
use mathlib.Core.Path.{sym, ◌∙◌}
use Prim.Native.Nat.{◌<◌}
use native.Mathlib.Omega.{arith}
use Rattle.keccak.specs.Round as spec
use Rattle.abreast.proofs.Four.{upto_none, upto_one, upto_all}
use Rattle.abreast.proofs.round.round.Goals as goal

pub loop-j-init : goal.loop-j-init
loop-j-init c =
    upto_none (λ _. spec.round c.args.rc) c.args.a.now c.requires

pub round_of-requires : goal.round_of-requires
round_of-requires c = (c.loop-j.invariant.words, omega (arith, c.loop-j-test.true))

pub loop-j-preserved : goal.loop-j-preserved
loop-j-preserved c =
    let at = c.loop-j in
    let h : at.j < 4 = omega (arith, c.loop-j-test.true) in
    upto_one at.j _ _ at.a _ h at.invariant c.round_of.ensures

pub shape_of-a : goal.shape_of-a
shape_of-a c = c.loop-j.invariant.words ∙ sym c.requires

pub returns : goal.returns
returns c =
    let at = c.loop-j in
    upto_all at.j _ _ at.a (omega arith) at.invariant
