-- `inverse::unround::untheta_lane` meets its contract.
-- Assumes nothing.
use mathlib.Core.Path.{ap₂}
use Prim.Native.Nat.{ℕ, ◌+◌}
use lib.Bits.{bit_xor}
use Rattle.inverse.specs.Inverse.{column}
use Rattle.inverse.proofs.unround.untheta_lane.Goals as goal

pub returns : goal.returns
returns c =
    let s = c.args in
    ap₂ (λ (u v : ℕ). bit_xor u (bit_xor (column s.p.now (s.x + 4)) v)) c.lane.ensures c.rotate_left-right.ensures
