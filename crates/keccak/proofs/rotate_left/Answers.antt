-- `keccak::rotate_left` meets its contract.
-- Assumes nothing.
use mathlib.Core.Path.{◌≡◌, ◌∙◌}
use Prim.Native.Nat.{◌%◌, ◌<◌}
use native.Mathlib.Omega.{arith}
use Rattle.keccak.proofs.Words.{rotl_shifts}
use Rattle.keccak.proofs.rotate_left.Goals as goal

pub returns : goal.returns
returns c =
    let a = c.args in
    let within : a.n % 64 < 64 = omega arith in
    let e : a.n % 64 % 64 ≡ a.n % 64 = omega arith in
    let done = rotl_shifts a.x (a.n % 64) c.ranges.x.fits within in
    c.rotate_left.ensures ∙ (rw e done)
