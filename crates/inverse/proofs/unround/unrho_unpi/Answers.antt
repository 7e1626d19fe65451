-- `inverse::unround::unrho_unpi` meets its contract: the lanes before i are written.
-- Assumes nothing.
use mathlib.Core.Path.{◌∙◌, sym}
use Prim.Native.Nat.{◌<◌}
use native.Mathlib.Omega.{arith}
use Rattle.keccak.proofs.States.{array_state}
use Rattle.inverse.proofs.Filling.{none_filled, one_filled, all_filled}
use Rattle.inverse.proofs.RhoPi.{unrho_unpi-grid}
use Rattle.inverse.proofs.unround.unrho_unpi.Goals as goal

pub loop-i-init : goal.loop-i-init
loop-i-init c = none_filled _ _ (array_state c.args.a c.well_formed.0).lanes

pub unrho_unpi_lane-requires : goal.unrho_unpi_lane-requires
unrho_unpi_lane-requires c = (omega arith, omega arith)

pub loop-i-preserved : goal.loop-i-preserved
loop-i-preserved c =
    let at = c.loop-i in
    let within : at.i < 25 = omega arith in
    one_filled _ at.i _ at.b within c.unrho_unpi_lane.ensures at.invariant

pub returns : goal.returns
returns c =
    let at = c.loop-i in
    all_filled _ at.i at.b (λ h. omega arith) at.invariant ∙ sym (unrho_unpi-grid _)
