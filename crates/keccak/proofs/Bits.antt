-- What rotation, inversion, XOR and AND of words do to their bits, and that words with the same bits are the same.
-- Assumes nothing.
use mathlib.Core.Path.{◌≡◌, sym, ap, ap₂, ◌∙◌, subst}
use mathlib.Core.Logic.{⊎_elim}
use Prim.Native.Nat.{ℕ, zero, suc, ◌+◌, ◌-◌, ◌*◌, ◌/◌, ◌%◌, ◌^◌, ◌<◌, ◌≤◌, suc-le-suc}
use native.Mathlib.Nat.{add_comm, add-zero, add-mul, mul_comm, mul-mod_left, mod-lt, eq-zero-or-pos, div-one, zero-lt-suc}
use native.Mathlib.Omega.{arith}
use lib.Bits.{bit_or, bit_xor, bit_and, or_shifted, xor_shr, xor_mod, and_shr, and_mod}
use lib.Dec.{lit<}
use lib.Pow.{pow-add, pow_pos, mod-pow-add, mod-mod-pow, field, shl-shr, shr-shr, shr_lt, high, low, split, ones_split, ones_sub-lt, le_ones}
use Rattle.keccak.specs.Round.{rotl, complement}
use Rattle.keccak.proofs.Words.{rotl_pos}

-- bit z of x
abbrev pub bit : ℕ → ℕ → ℕ
bit x z = x / 2 ^ z % 2

pub bit_lt : (x z : ℕ) → bit x z < 2
bit_lt x z = mod-lt (x / 2 ^ z) (lit< tt)

-- the bits below n are those of the remainder modulo 2^n
pub bit_low : (x n z : ℕ) → z < n → bit (x % 2 ^ n) z ≡ bit x z
bit_low x n z h =
    let j : ℕ = n - (z + 1) in
    let e : n ≡ (j + 1) + z = omega arith in
    ap (λ (i : ℕ). bit (x % 2 ^ i) z) e ∙ ap (λ (y : ℕ). y % 2) (field x (j + 1) z) ∙ mod-mod-pow (x / 2 ^ z) j 1

-- the bits from n on are those of the quotient by 2^n
pub bit_high : (x n z : ℕ) → bit x (n + z) ≡ bit (x / 2 ^ n) z
bit_high x n z = ap (λ (y : ℕ). y % 2) (sym (shr-shr x n z))

-- ---- XOR and AND

pub bit-bit_xor : (x y z : ℕ) → bit (bit_xor x y) z ≡ bit_xor (bit x z) (bit y z)
bit-bit_xor x y z = ap (λ (n : ℕ). n % 2) (xor_shr x y z) ∙ xor_mod (x / 2 ^ z) (y / 2 ^ z) 1

pub bit-bit_and : (x y z : ℕ) → bit (bit_and x y) z ≡ bit_and (bit x z) (bit y z)
bit-bit_and x y z = ap (λ (n : ℕ). n % 2) (and_shr x y z) ∙ and_mod (x / 2 ^ z) (y / 2 ^ z) 1

-- ---- words with the same bits

bit_zero : (x : ℕ) → bit x 0 ≡ x % 2
bit_zero x = ap (λ (n : ℕ). n % 2) (div-one x)

bit_half : (x z : ℕ) → bit (x / 2) z ≡ bit x (suc z)
bit_half x z = ap (λ (n : ℕ). n % 2) (shr-shr x 1 z) ∙ ap (bit x) (omega arith)

bits_same : (k x y : ℕ) → x < 2 ^ k → y < 2 ^ k → ((z : ℕ) → z < k → bit x z ≡ bit y z) → x ≡ y
bits_same zero x y hx hy h = omega arith
bits_same (suc k) x y hx hy h =
    let halves : x / 2 ≡ y / 2 = bits_same k (x / 2) (y / 2) (omega arith) (omega arith) (λ z g. bit_half x z ∙ h (suc z) (suc-le-suc g) ∙ sym (bit_half y z)) in
    let last : x % 2 ≡ y % 2 = sym (bit_zero x) ∙ h 0 (zero-lt-suc k) ∙ bit_zero y in
    omega arith

pub words_same : (x y : ℕ) → x < 2 ^ 64 → y < 2 ^ 64 → ((z : ℕ) → z < 64 → bit x z ≡ bit y z) → x ≡ y
words_same = bits_same 64

-- ---- rotation

-- as a sum, where m and n make 64: the low m bits go up by n, and the n high ones come below them
module _ (x m n : ℕ) (h : 0 < n) (e : m + n ≡ 64) (hx : x < 2 ^ 64) where
  within : x < 2 ^ (n + m)
  within = subst (λ (k : ℕ). x < 2 ^ k) (sym e ∙ add_comm m n) hx

  shifted : (x * 2 ^ n) % 2 ^ 64 ≡ (x % 2 ^ m) * 2 ^ n
  shifted =
      ap (λ (k : ℕ). (x * 2 ^ n) % 2 ^ k) (sym e) ∙ mod-pow-add (x * 2 ^ n) m n
      ∙ ap₂ (λ (u v : ℕ). (u % 2 ^ m) * 2 ^ n + v) (shl-shr x n) (mul-mod_left x (2 ^ n)) ∙ add-zero ((x % 2 ^ m) * 2 ^ n)

  pub rotl-sum : rotl x n ≡ (x % 2 ^ m) * 2 ^ n + x / 2 ^ m
  rotl-sum =
      let d : 64 - n ≡ m = omega arith in
      rotl_pos x n h ∙ ap₂ bit_or shifted (ap (λ (k : ℕ). x / 2 ^ k) d) ∙ or_shifted (x % 2 ^ m) n (x / 2 ^ m) (shr_lt n m within)

  -- a bit that stays below the top
  rotl_up : (z : ℕ) → z < m → bit (rotl x n) (n + z) ≡ bit x z
  rotl_up z hz =
      ap (λ (y : ℕ). bit y (n + z)) rotl-sum ∙ bit_high _ n z ∙ ap (λ (y : ℕ). bit y z) (high (x % 2 ^ m) n (shr_lt n m within)) ∙ bit_low x m z hz

  -- a bit that leaves at the top
  rotl_around : (u : ℕ) → u < n → bit (rotl x n) u ≡ bit x (m + u)
  rotl_around u hu =
      ap (λ (y : ℕ). bit y u) rotl-sum ∙ sym (bit_low _ n u hu) ∙ ap (λ (y : ℕ). bit y u) (low (x % 2 ^ m) n (shr_lt n m within)) ∙ sym (bit_high x m u)

rotl_bit_some : (x n z : ℕ) → x < 2 ^ 64 → 0 < n → n < 64 → z < 64 → bit (rotl x n) ((n + z) % 64) ≡ bit x z
rotl_bit_some x n z hx h hn hz = ⊎_elim up around (eq-zero-or-pos ((n + z) / 64))
  where
    m : ℕ
    m = 64 - n

    e : m + n ≡ 64
    e = omega arith

    up : (n + z) / 64 ≡ 0 → bit (rotl x n) ((n + z) % 64) ≡ bit x z
    up q =
        let i : (n + z) % 64 ≡ n + z = omega arith in
        let b : z < m = omega arith in
        ap (bit (rotl x n)) i ∙ rotl_up x m n h e hx z b

    around : 0 < (n + z) / 64 → bit (rotl x n) ((n + z) % 64) ≡ bit x z
    around q =
        let u : ℕ = n + z - 64 in
        let i : (n + z) % 64 ≡ u = omega arith in
        let b : u < n = omega arith in
        let j : m + u ≡ z = omega arith in
        ap (bit (rotl x n)) i ∙ rotl_around x m n h e hx u b ∙ ap (bit x) j

-- rotl x n moves bit z to bit n + z modulo 64
pub rotl_bit : (x n z : ℕ) → x < 2 ^ 64 → n < 64 → z < 64 → bit (rotl x n) ((n + z) % 64) ≡ bit x z
unfolding rotl
rotl_bit x n z hx hn hz =
    ⊎_elim
    (λ e.
    let i : (n + z) % 64 ≡ z = omega arith in
    ap₂ (λ (k j : ℕ). bit (rotl x k) j) e i)
    (λ h. rotl_bit_some x n z hx h hn hz)
    (eq-zero-or-pos n)

-- bit z of a rotated word, from where it came
pub rotl-from : (x n z : ℕ) → x < 2 ^ 64 → n < 64 → z < 64 → bit (rotl x n) z ≡ bit x ((64 - n + z) % 64)
rotl-from x n z hx hn hz =
    let u : ℕ = (64 - n + z) % 64 in
    let hu : u < 64 = omega arith in
    let e : z ≡ (n + u) % 64 = omega arith in
    ap (bit (rotl x n)) e ∙ rotl_bit x n u hx hn hu

-- ---- inversion

-- the quotient and the remainder by p of all ones less x
less : (ones p a q r : ℕ) → ones ≡ a * p + (p - 1) → q ≤ a → r < p → ones - (q * p + r) ≡ (a - q) * p + (p - 1 - r)
less ones p a q r e hq hr =
    let d : ℕ = a - q in
    let ea : a ≡ d + q = omega arith in
    let ep : a * p ≡ d * p + q * p = ap (λ (k : ℕ). k * p) ea ∙ add-mul d q p in
    omega arith

odd_less : (p q : ℕ) → q < 2 * p → (2 * p - 1 - q) % 2 ≡ 1 - q % 2
odd_less p q h = omega arith

-- a word in two parts, of m and n bits, is inverted part by part
pub complement_parts : (m n q r : ℕ) → m + n ≡ 64 → q < 2 ^ m → r < 2 ^ n → complement (q * 2 ^ n + r) ≡ ((2 ^ m - 1) - q) * 2 ^ n + ((2 ^ n - 1) - r)
unfolding complement
complement_parts m n q r e hq hr = less (2 ^ 64 - 1) (2 ^ n) (2 ^ m - 1) q r (ap (λ (k : ℕ). 2 ^ k - 1) (sym e) ∙ ones_split m n) (le_ones m hq) hr

-- complement x inverts every bit
pub complement_bit : (x z : ℕ) → x < 2 ^ 64 → z < 64 → bit (complement x) z ≡ 1 - bit x z
unfolding complement
complement_bit x z hx hz =
    let j : ℕ = 63 - z in
    let e : 64 ≡ (j + 1) + z = omega arith in
    let q : ℕ = x / 2 ^ z in
    let hq : q < 2 ^ (j + 1) = shr_lt (j + 1) z (subst (λ (k : ℕ). x < 2 ^ k) e hx) in
    let two : 2 ^ (j + 1) ≡ 2 * 2 ^ j = pow-add 2 j 1 ∙ mul_comm (2 ^ j) 2 in
    let parts : complement x ≡ ((2 ^ (j + 1) - 1) - q) * 2 ^ z + (2 ^ z - 1 - x % 2 ^ z) =
    ap complement (sym (split x z)) ∙ complement_parts (j + 1) z q (x % 2 ^ z) (sym e) hq (mod-lt x (pow_pos z)) in
    ap (λ (y : ℕ). bit y z) parts ∙ ap (λ (y : ℕ). y % 2) (high ((2 ^ (j + 1) - 1) - q) z (ones_sub-lt z (x % 2 ^ z)))
    ∙ ap (λ (y : ℕ). (y - 1 - q) % 2) two ∙ odd_less (2 ^ j) q (subst (λ (k : ℕ). q < k) two hq)
