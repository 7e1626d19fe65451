-- `inverse::unround::untheta` meets its contract: the lanes before i are written.
-- Assumes nothing.
use mathlib.Core.Path.{◌∙◌, ap}
use mathlib.Core.List.{List}
use Prim.Native.Nat.{ℕ, ◌<◌}
use native.Mathlib.Omega.{arith}
use lib.Bits.{bit_xor}
use Rattle.keccak.specs.State.{lane, grid}
use Rattle.keccak.proofs.States.{array_state}
use Rattle.inverse.specs.Inverse.{effect, untheta_parities, untheta}
use Rattle.inverse.proofs.Filling.{none_filled, one_filled, all_filled}
use Rattle.inverse.proofs.unround.untheta.Goals as goal

pub loop-i-init : goal.loop-i-init
loop-i-init c = none_filled _ _ (array_state c.args.a c.well_formed.0).lanes

pub untheta_lane-requires : goal.untheta_lane-requires
untheta_lane-requires c = (omega arith, omega arith)

pub loop-i-preserved : goal.loop-i-preserved
loop-i-preserved c =
    let at = c.loop-i in
    let within : at.i < 25 = omega arith in
    one_filled _ at.i _ at.b within c.untheta_lane.ensures at.invariant

pub returns : goal.returns
unfolding untheta
returns c =
    let at = c.loop-i in
    let parities-are = c.untheta_parities-p.ensures ∙ ap untheta_parities c.parities-c.ensures in
    all_filled _ at.i at.b (λ h. omega arith) at.invariant ∙ ap (λ (p : List ℕ). grid (λ x y. bit_xor (lane c.args.a x y) (effect p x))) parities-are
