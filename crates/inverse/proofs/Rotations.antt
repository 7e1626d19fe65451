-- Rotations pass through XOR, two of them are one, and one to the left and one to the right undo each other.
-- Assumes nothing.
use mathlib.Core.Path.{◌≡◌, sym, ap, ap₂, ◌∙◌}
use Prim.Native.Nat.{ℕ, ◌+◌, ◌-◌, ◌*◌, ◌/◌, ◌%◌, ◌^◌, ◌<◌}
use native.Mathlib.Nat.{mod-lt}
use native.Mathlib.Omega.{arith}
use lib.Bits.{bit_xor, xor_lt}
use lib.Dec.{lit<}
use Rattle.keccak.specs.Round.{rotl}
use Rattle.keccak.proofs.Words.{rotl-lt}
use Rattle.keccak.proofs.Steps.{rotl-zero}
use Rattle.keccak.proofs.Bits.{bit, bit-bit_xor, words_same, rotl-from}
use Rattle.inverse.specs.Inverse.{rotr}

pub rotl-xor : (x y n : ℕ) → x < 2 ^ 64 → y < 2 ^ 64 → n < 64 → rotl (bit_xor x y) n ≡ bit_xor (rotl x n) (rotl y n)
rotl-xor x y n hx hy hn =
    words_same _ _ (rotl-lt _ n (xor_lt 64 x y hx hy)) (xor_lt 64 _ _ (rotl-lt x n hx) (rotl-lt y n hy))
    (λ z hz.
    rotl-from (bit_xor x y) n z (xor_lt 64 x y hx hy) hn hz ∙ bit-bit_xor x y ((64 - n + z) % 64)
    ∙ sym (ap₂ bit_xor (rotl-from x n z hx hn hz) (rotl-from y n z hy hn hz)) ∙ sym (bit-bit_xor (rotl x n) (rotl y n) z))

mod_in : (a b : ℕ) → (a + b % 64) % 64 ≡ (a + b) % 64
mod_in a b = omega arith

mod_same : (a b q : ℕ) → a + 64 ≡ b + 64 * q → a % 64 ≡ b % 64
mod_same a b q e = omega arith

-- back by n and then by m is back by both together
rotated_from : (m n z : ℕ) → m < 64 → n < 64 → (64 - m + (64 - n + z) % 64) % 64 ≡ (64 - (m + n) % 64 + z) % 64
rotated_from m n z hm hn =
    let e : (64 - (m + n) % 64 + z) + 64 ≡ (64 - m + (64 - n + z)) + 64 * ((m + n) / 64) = omega arith in
    mod_in (64 - m) (64 - n + z) ∙ sym (mod_same _ _ ((m + n) / 64) e)

pub rotl-rotl : (x m n : ℕ) → x < 2 ^ 64 → m < 64 → n < 64 → rotl (rotl x m) n ≡ rotl x ((m + n) % 64)
rotl-rotl x m n hx hm hn =
    words_same _ _ (rotl-lt _ n (rotl-lt x m hx)) (rotl-lt x _ hx)
    (λ z hz.
    let u : ℕ = (64 - n + z) % 64 in
    let hu : u < 64 = omega arith in
    let hs : (m + n) % 64 < 64 = omega arith in
    rotl-from (rotl x m) n z (rotl-lt x m hx) hn hz ∙ rotl-from x m u hx hm hu ∙ ap (bit x) (rotated_from m n z hm hn) ∙ sym (rotl-from x ((m + n) % 64) z hx hs hz))

pub rotr-lt : (x n : ℕ) → x < 2 ^ 64 → rotr x n < 2 ^ 64
unfolding rotr
rotr-lt x n h = rotl-lt x _ h

-- two rotations that make 64 places are none
rotl_64 : (x m n : ℕ) → x < 2 ^ 64 → m < 64 → n < 64 → (m + n) % 64 ≡ 0 → rotl (rotl x m) n ≡ x
rotl_64 x m n hx hm hn e = rotl-rotl x m n hx hm hn ∙ ap (rotl x) e ∙ rotl-zero x

-- so the two rotations undo each other
pub rotr-rotl : (x n : ℕ) → x < 2 ^ 64 → n < 64 → rotr (rotl x n) n ≡ x
unfolding rotr
rotr-rotl x n hx hn = rotl_64 x n _ hx hn (mod-lt _ (lit< tt)) (omega arith)

pub rotl-rotr : (x n : ℕ) → x < 2 ^ 64 → n < 64 → rotl (rotr x n) n ≡ x
unfolding rotr
rotl-rotr x n hx hn = rotl_64 x _ n hx (mod-lt _ (lit< tt)) hn (omega arith)
