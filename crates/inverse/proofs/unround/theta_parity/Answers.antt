-- `inverse::unround::theta_parity` meets its contract.
-- Assumes nothing.
use mathlib.Core.Path.{ap}
use Prim.Native.Nat.{ℕ, ◌+◌, ◌*◌}
use lib.Bits.{bit_xor}
use Rattle.inverse.specs.Inverse.{column}
use Rattle.inverse.proofs.unround.theta_parity.Goals as goal

pub returns : goal.returns
returns c =
    let s = c.args in
    ap (λ (w : ℕ). bit_xor (column s.p s.x) (bit_xor (column s.p (s.x + 4 * s.t)) w)) c.rotate_left-right.ensures
