-- `inverse::unround::unchi` meets its contract: the lanes before i are written.
-- Assumes nothing.
use Prim.Native.Nat.{◌<◌}
use native.Mathlib.Omega.{arith}
use Rattle.keccak.proofs.States.{array_state}
use Rattle.inverse.specs.Inverse.{unchi}
use Rattle.inverse.proofs.Filling.{none_filled, one_filled, all_filled}
use Rattle.inverse.proofs.unround.unchi.Goals as goal

pub loop-i-init : goal.loop-i-init
loop-i-init c = none_filled _ _ (array_state c.args.a c.well_formed.0).lanes

pub unchi_lane-requires : goal.unchi_lane-requires
unchi_lane-requires c = (omega arith, omega arith)

pub loop-i-preserved : goal.loop-i-preserved
loop-i-preserved c =
    let at = c.loop-i in
    let within : at.i < 25 = omega arith in
    one_filled _ at.i _ at.b within c.unchi_lane.ensures at.invariant

pub returns : goal.returns
unfolding unchi
returns c =
    let at = c.loop-i in
    all_filled _ at.i at.b (λ h. omega arith) at.invariant
