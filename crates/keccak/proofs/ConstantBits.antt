-- The bits of a round constant are those that Algorithm 6 sets.
-- Assumes nothing.
use mathlib.Core.Path.{◌≡◌, sym, ap, ap₂, ◌∙◌}
use mathlib.Core.Bool.{cond}
use mathlib.Core.List.{List}
use Prim.Native.Nat.{ℕ, zero, suc, ◌+◌, ◌-◌, ◌*◌, ◌%◌, ◌^◌, ◌<◌, ◌≤◌, zero-le}
use native.Mathlib.Nat.{mod-lt, mod-eq_of_lt, div-eq_of_lt, lt_of_lt_of_le, le_of_lt, le_of_suc-le-suc, mul-le-mul_right, pow-suc, add_comm, zero-add}
use native.Mathlib.Omega.{arith}
use native.Mathlib.Decide.{dec_lt, ℕ_discrete}
use borrow.Author.Tests.{eq-eqb, ne_eqb}
use lib.Dec.{eqb, lit<}
use lib.ListN.{get_or}
use lib.Pow.{pow_pos, pow_mono, pow-add, high, low}
use Rattle.keccak.specs.Permutation.{round_constants}
use Rattle.keccak.specs.Rules.{register, rc, bits_below, round_constant}
use Rattle.keccak.specs.Bitwise.{rc_turns, RC}
use Rattle.keccak.proofs.Bits.{bit, bit_low, bit_high}
use Rattle.keccak.proofs.Constants.{constants_rule}
use Rattle.keccak.proofs.Grid.{from_at}
use Rattle.keccak.proofs.RegisterBits.{rc_bits}

rc-lt : (t : ℕ) → rc t < 2
unfolding rc
rc-lt t = mod-lt (register (t % 255)) (lit< tt)

-- a number of n bits has none from n on
bit_above : (x n z : ℕ) → x < 2 ^ n → n ≤ z → bit x z ≡ 0
bit_above x n z hx h = ap (λ (v : ℕ). v % 2) (div-eq_of_lt (lt_of_lt_of_le hx (pow_mono h)))

-- a bit b above a number of m bits
module _ (x m b z : ℕ) (hx : x < 2 ^ m) (hb : b < 2) where
  below : z < m → bit (b * 2 ^ m + x) z ≡ bit x z
  below h = sym (bit_low (b * 2 ^ m + x) m z h) ∙ ap (λ (v : ℕ). bit v z) (low b m hx)

  own : bit (b * 2 ^ m + x) m ≡ b
  own = ap (λ (v : ℕ). v % 2) (high b m hx) ∙ mod-eq_of_lt hb

  above : m < z → bit (b * 2 ^ m + x) z ≡ bit x z
  above h =
      let j : ℕ = z - m in
      let e : z ≡ m + j = omega arith in
      ap (bit (b * 2 ^ m + x)) e ∙ bit_high (b * 2 ^ m + x) m j ∙ ap (λ (v : ℕ). bit v j) (high b m hx) ∙ bit_above b 1 j hb (omega arith)
      ∙ sym (bit_above x m z hx (le_of_lt h))

  top_bit : bit (b * 2 ^ m + x) z ≡ cond (eqb z m) b (bit x z)
  top_bit = by (ℕ_discrete z m)
    where
      apart : Dec (z < m) → (z ≡ m → ⊥) → bit (b * 2 ^ m + x) z ≡ bit x z
      apart (yes h) ne = below h
      apart (no h) ne = above (omega (arith, h, ne))

      by : Dec (z ≡ m) → bit (b * 2 ^ m + x) z ≡ cond (eqb z m) b (bit x z)
      by (yes e) = rw (eq-eqb z m e) (ap (bit (b * 2 ^ m + x)) e ∙ own)
      by (no ne) = rw (ne_eqb z m ne) (apart (dec_lt z m) ne)

-- the bits that turns j < n set lie below bit 2^n - 1
below_lt : (n i : ℕ) → bits_below i n < 2 ^ (2 ^ n - 1)
unfolding bits_below
below_lt zero i = lit< tt
below_lt (suc j) i =
    let m : ℕ = 2 ^ j - 1 in
    let low : bits_below i j < 2 ^ m = below_lt j i in
    let one : rc (j + 7 * i) ≤ 1 = le_of_suc-le-suc (rc-lt (j + 7 * i)) in
    let top : rc (j + 7 * i) * 2 ^ m ≤ 1 * 2 ^ m = mul-le-mul_right (2 ^ m) one in
    let room : m + 1 ≤ 2 ^ suc j - 1 = omega (arith, pow_pos j, pow-suc 2 j) in
    lt_of_lt_of_le (omega (arith, pow-add 2 m 1)) (pow_mono room)

rc_turns_bit : (n i z : ℕ) → bit (bits_below i n) z ≡ rc_turns n i z
unfolding bits_below rc_turns
rc_turns_bit zero i z = bit_above 0 0 z (lit< tt) zero-le
rc_turns_bit (suc j) i z =
    ap (λ (v : ℕ). bit v z) (add_comm (bits_below i j) (rc (j + 7 * i) * 2 ^ (2 ^ j - 1)))
    ∙ top_bit (bits_below i j) (2 ^ j - 1) (rc (j + 7 * i)) z (below_lt j i) (rc-lt (j + 7 * i))
    ∙ ap₂ (cond (eqb z (2 ^ j - 1))) (rc_bits (j + 7 * i)) (rc_turns_bit j i z)

-- the constants of the table
pub constant_bit : (i z : ℕ) → i < 24 → bit (get_or round_constants i 0) z ≡ RC i z
unfolding RC round_constant
constant_bit i z h =
    ap (λ (v : ℕ). bit v z) (ap (λ (l : List ℕ). get_or l i 0) constants_rule ∙ from_at round_constant 0 24 i h ∙ ap round_constant (zero-add i))
    ∙ rc_turns_bit 7 i z
