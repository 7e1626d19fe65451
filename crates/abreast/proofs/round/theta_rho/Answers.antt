-- `abreast::round::theta_rho` meets its contract.
-- Assumes nothing.
use mathlib.Core.List.{List}
use mathlib.Core.Path.{◌≡◌, sym, ap, ap₂, ◌∙◌}
use Prim.Native.Nat.{ℕ, ◌+◌, ◌*◌, ◌%◌, ◌<◌}
use native.Mathlib.Omega.{arith}
use lib.Bits.{bit_xor}
use lib.ListN.{get_or}
use Rattle.keccak.specs.Round.{rotl, offsets}
use Rattle.keccak.proofs.Offsets.{offset_places}
use Rattle.abreast.specs.Four.{state_at}
use Rattle.abreast.specs.Planes.{turned}
use Rattle.abreast.proofs.Four.{state_at_lem}
use Rattle.abreast.proofs.round.theta_rho.Goals as goal

pub returns : goal.returns
unfolding turned
returns c =
    let a = c.args in
    let s : List ℕ = a.a.now in
    let n : ℕ = (a.k + 2 * a.y) % 5 in
    let m : a.k % 5 ≡ a.k = omega arith in
    let h : a.k + 5 * n < 25 = omega arith in
    let i : ℕ = a.k + 5 * n in
    let rotated : ℕ → ℕ → ℕ = λ (w r : ℕ). rotl (bit_xor w a.d) r in
    let computed : c.rotate_left.result ≡ rotated (get_or s (4 * i + a.j) 0) (get_or offsets i 0 % 64) = c.rotate_left.ensures in
    computed ∙ ap₂ rotated (sym (state_at_lem a.j s i h)) (offset_places i h)
    ∙ ap (λ (k : ℕ). rotated (get_or (state_at a.j s) (k + 5 * n) 0) (get_or offsets (k + 5 * n) 0)) (sym m)
