-- `keccak::round::theta_rho` meets its contract.
-- Assumes nothing.
use mathlib.Core.Path.{◌≡◌, sym, ap, ◌∙◌}
use Prim.Native.Nat.{ℕ, ◌+◌, ◌*◌, ◌%◌, ◌<◌}
use native.Mathlib.Omega.{arith}
use lib.Bits.{bit_xor}
use lib.ListN.{get_or}
use Rattle.keccak.specs.Round.{rotl, offsets}
use Rattle.keccak.proofs.Offsets.{offset_places}
use Rattle.keccak.proofs.round.theta_rho.Goals as goal

pub returns : goal.returns
returns c =
    let k = c.args.k in
    let y = c.args.y in
    let i : ℕ → ℕ = λ (x : ℕ). x + 5 * ((k + 2 * y) % 5) in
    let turned : ℕ → ℕ → ℕ = λ (x n : ℕ). rotl (bit_xor (get_or c.args.a.now (i x) 0) c.args.d) n in
    let computed : c.rotate_left.result ≡ turned k (get_or offsets (i k) 0 % 64) = c.rotate_left.ensures in
    let within : i k < 25 = omega arith in
    let e : k % 5 ≡ k = omega arith in
    computed ∙ ap (turned k) (offset_places (i k) within) ∙ ap (λ (x : ℕ). turned x (get_or offsets (i x) 0)) (sym e)
