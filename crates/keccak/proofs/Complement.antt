-- Laws of inverted words: through XOR and rotation the inversion goes outwards, and De Morgan's law.
-- Assumes nothing.
use mathlib.Core.Path.{◌≡◌, refl, sym, ap, ap₂, ◌∙◌, subst}
use Prim.Native.Nat.{ℕ, zero, suc, ◌+◌, ◌-◌, ◌*◌, ◌/◌, ◌%◌, ◌^◌, ◌<◌, min}
use native.Mathlib.Nat.{add_comm, mod-lt}
use native.Mathlib.Omega.{arith}
use lib.Bits.{bit_and, bit_or, bit_xor, and_step, and_zero_l, or_add_and, xor_add_and, and_comm, xor_comm, xor_lt}
use lib.Pow.{pow_pos, high, low, split, shr_lt, ones_sub-lt}
use Rattle.keccak.specs.Round.{rotl, complement}
use Rattle.keccak.proofs.Words.{complement-lt}
use Rattle.keccak.proofs.Bits.{rotl-sum, complement_parts}

-- ---- what a word shares with y and with y inverted

digits : (a b : ℕ) → a < 2 → b < 2 → min a (1 - b) + min a b ≡ a
digits zero zero p q = refl
digits zero (suc zero) p q = refl
digits (suc zero) zero p q = refl
digits (suc zero) (suc zero) p q = refl
digits zero (suc (suc b)) p q = absurd (omega arith)
digits (suc zero) (suc (suc b)) p q = absurd (omega arith)
digits (suc (suc a)) b p q = absurd (omega arith)

parts : (k x y : ℕ) → x < 2 ^ k → y < 2 ^ k → bit_and x ((2 ^ k - 1) - y) + bit_and x y ≡ x
parts zero x y hx hy =
    let e : x ≡ 0 = omega arith in
    subst (λ (n : ℕ). bit_and n ((2 ^ 0 - 1) - y) + bit_and n y ≡ n) (sym e) (ap₂ (λ (u v : ℕ). u + v) (and_zero_l ((2 ^ 0 - 1) - y)) (and_zero_l y))
parts (suc k) x y hx hy =
    let half : ((2 ^ suc k - 1) - y) / 2 ≡ (2 ^ k - 1) - y / 2 = omega arith in
    let odd : ((2 ^ suc k - 1) - y) % 2 ≡ 1 - y % 2 = omega arith in
    let first : bit_and x ((2 ^ suc k - 1) - y) ≡ bit_and (x / 2) ((2 ^ k - 1) - y / 2) * 2 + min (x % 2) (1 - y % 2) =
    and_step x ((2 ^ suc k - 1) - y) ∙ ap₂ (λ (u v : ℕ). bit_and (x / 2) u * 2 + min (x % 2) v) half odd in
    let second : bit_and x y ≡ bit_and (x / 2) (y / 2) * 2 + min (x % 2) (y % 2) = and_step x y in
    let halves : bit_and (x / 2) ((2 ^ k - 1) - y / 2) + bit_and (x / 2) (y / 2) ≡ x / 2 = parts k (x / 2) (y / 2) (omega arith) (omega arith) in
    let last : min (x % 2) (1 - y % 2) + min (x % 2) (y % 2) ≡ x % 2 = digits (x % 2) (y % 2) (omega arith) (omega arith) in
    omega (arith, first, second, halves, last)

-- ---- the laws, for words of 64 bits

pub complement_twice : (x : ℕ) → x < 2 ^ 64 → complement (complement x) ≡ x
unfolding complement
complement_twice x h = omega arith

shared : (x y : ℕ) → x < 2 ^ 64 → y < 2 ^ 64 → bit_and x (complement y) + bit_and x y ≡ x
unfolding complement
shared x y hx hy = parts 64 x y hx hy

pub xor-complement : (x y : ℕ) → x < 2 ^ 64 → y < 2 ^ 64 → bit_xor x (complement y) ≡ complement (bit_xor x y)
unfolding complement
xor-complement x y hx hy =
    omega (arith, xor_add_and x (complement y), xor_add_and x y, shared x y hx hy)

pub complement-xor : (x y : ℕ) → x < 2 ^ 64 → y < 2 ^ 64 → bit_xor (complement x) y ≡ complement (bit_xor x y)
complement-xor x y hx hy = xor_comm (complement x) y ∙ xor-complement y x hy hx ∙ ap complement (xor_comm y x)

pub xor_inverses : (x y : ℕ) → x < 2 ^ 64 → y < 2 ^ 64 → bit_xor (complement x) (complement y) ≡ bit_xor x y
xor_inverses x y hx hy =
    xor-complement (complement x) y (complement-lt x) hy ∙ ap complement (complement-xor x y hx hy) ∙ complement_twice (bit_xor x y) (xor_lt 64 x y hx hy)

-- De Morgan's law
pub complement-or : (x y : ℕ) → x < 2 ^ 64 → y < 2 ^ 64 → complement (bit_or x y) ≡ bit_and (complement x) (complement y)
unfolding complement
complement-or x y hx hy =
    let s : bit_and (complement x) (complement y) + bit_and (complement x) y ≡ complement x = shared (complement x) y (complement-lt x) hy in
    let t : bit_and y (complement x) + bit_and y x ≡ y = shared y x hy hx in
    omega (arith, s, t, and_comm (complement x) y, and_comm y x, or_add_and x y)

-- ---- rotation

module _ (x m n : ℕ) (h : 0 < n) (e : m + n ≡ 64) (hx : x < 2 ^ 64) where
  swapped : n + m ≡ 64
  swapped = add_comm n m ∙ e

  high_part : x / 2 ^ m < 2 ^ n
  high_part = shr_lt n m (subst (λ (k : ℕ). x < 2 ^ k) (sym swapped) hx)

  low_part : x % 2 ^ m < 2 ^ m
  low_part = mod-lt x (pow_pos m)

  inverse : complement x ≡ ((2 ^ n - 1) - x / 2 ^ m) * 2 ^ m + ((2 ^ m - 1) - x % 2 ^ m)
  inverse = ap complement (sym (split x m)) ∙ complement_parts n m (x / 2 ^ m) (x % 2 ^ m) swapped high_part low_part

  rotl_some : rotl (complement x) n ≡ complement (rotl x n)
  rotl_some =
      let low-inverse : complement x % 2 ^ m ≡ (2 ^ m - 1) - x % 2 ^ m = ap (λ (y : ℕ). y % 2 ^ m) inverse ∙ low _ m (ones_sub-lt m (x % 2 ^ m)) in
      let high-inverse : complement x / 2 ^ m ≡ (2 ^ n - 1) - x / 2 ^ m = ap (λ (y : ℕ). y / 2 ^ m) inverse ∙ high _ m (ones_sub-lt m (x % 2 ^ m)) in
      rotl-sum (complement x) m n h e (complement-lt x) ∙ ap₂ (λ (u v : ℕ). u * 2 ^ n + v) low-inverse high-inverse
      ∙ sym (complement_parts m n (x % 2 ^ m) (x / 2 ^ m) e low_part high_part) ∙ ap complement (sym (rotl-sum x m n h e hx))

pub rotl-complement : (x n : ℕ) → x < 2 ^ 64 → n < 64 → rotl (complement x) n ≡ complement (rotl x n)
unfolding rotl
rotl-complement x zero hx hn = refl
rotl-complement x (suc n) hx hn =
    let e : (64 - suc n) + suc n ≡ 64 = omega arith in
    rotl_some x (64 - suc n) (suc n) (omega arith) e hx
