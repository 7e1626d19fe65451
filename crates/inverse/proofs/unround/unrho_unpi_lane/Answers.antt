-- `inverse::unround::unrho_unpi_lane` meets its contract.
-- Assumes nothing.
use mathlib.Core.Path.{◌≡◌, ap₂, ◌∙◌}
use Prim.Native.Nat.{ℕ, ◌+◌, ◌-◌, ◌*◌, ◌%◌, ◌<◌}
use native.Mathlib.Omega.{arith}
use lib.ListN.{get_or}
use Rattle.keccak.specs.Round.{rotl, offsets}
use Rattle.keccak.proofs.Offsets.{offset_small}
use Rattle.inverse.specs.Inverse.{rotr}
use Rattle.inverse.proofs.unround.unrho_unpi_lane.Goals as goal

pub overflow_sub-offsets : goal.overflow_sub-offsets
overflow_sub-offsets c =
    let s = c.args in
    let within : s.x + 5 * s.y < 25 = omega arith in
    let small = offset_small (s.x + 5 * s.y) within in
    omega (arith, small)

pub returns : goal.returns
unfolding rotr
returns c =
    let s = c.args in
    let place : s.x + 5 * s.y ≡ s.x % 5 + 5 * (s.y % 5) = omega arith in
    c.rotate_left.ensures ∙ ap₂ (λ (w i : ℕ). rotl w ((64 - get_or offsets i 0) % 64)) c.lane.ensures place
