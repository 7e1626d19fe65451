-- What `xor_byte` means byte by byte: it XORs b into byte i of a state, and leaves every other byte as it was.
-- Assumes nothing.
use mathlib.Core.Path.{◌≡◌, sym, ap, ap₂, ◌∙◌}
use mathlib.Core.List.{List}
use mathlib.Core.Logic.{◌≢◌}
use Prim.Native.Nat.{ℕ, suc, ◌+◌, ◌-◌, ◌*◌, ◌/◌, ◌%◌, ◌^◌, ◌<◌}
use native.Mathlib.Nat.{mod-eq_of_lt, div-eq_of_lt, mul_assoc, add-zero, lt_of_lt_of_le}
use native.Mathlib.Decide.{ℕ_discrete, dec_lt}
use native.Mathlib.Omega.{arith}
use lib.ListN.{length, get_or}
use lib.Seq.{get_or-set_same, get_or-set_other}
use lib.Pow.{shl-shr, shl_lt, pow-add, pow_mono, pow_pos, low}
use lib.Bits.{bit_xor, xor_zero_r, xor_shr, xor_mod}
use Rattle.keccak.specs.State.{byte_at}
use Rattle.keccak.proofs.Bytes.{byte_is}
use Rattle.sponge.specs.Published.{xor_byte}

-- byte s of a word into whose byte r the byte b was XORed
digit-xor : (w b r s : ℕ) → bit_xor w (b * 2 ^ (8 * r)) / 2 ^ (8 * s) % 256 ≡ bit_xor (w / 2 ^ (8 * s) % 256) (b * 2 ^ (8 * r) / 2 ^ (8 * s) % 256)
digit-xor w b r s =
    ap (λ (n : ℕ). n % 2 ^ 8) (xor_shr w (b * 2 ^ (8 * r)) (8 * s)) ∙ xor_mod (w / 2 ^ (8 * s)) (b * 2 ^ (8 * r) / 2 ^ (8 * s)) 8

same_digit : (b r : ℕ) → b < 256 → b * 2 ^ (8 * r) / 2 ^ (8 * r) % 256 ≡ b
same_digit b r h = ap (λ (n : ℕ). n % 256) (shl-shr b (8 * r)) ∙ mod-eq_of_lt h

lower_digit : (b r s : ℕ) → b < 256 → r < s → b * 2 ^ (8 * r) / 2 ^ (8 * s) % 256 ≡ 0
lower_digit b r s h g =
    let small : b * 2 ^ (8 * r) < 2 ^ (8 * s) = lt_of_lt_of_le (shl_lt 8 (8 * r) h) (pow_mono {i = 8 + 8 * r} {j = 8 * s} (omega arith)) in
    ap (λ (n : ℕ). n % 256) (div-eq_of_lt small)

higher_digit : (b r s : ℕ) → s < r → b * 2 ^ (8 * r) / 2 ^ (8 * s) % 256 ≡ 0
higher_digit b r s g =
    let k : ℕ = 8 * (r - suc s) in
    let e : 8 * r ≡ k + 8 + 8 * s = omega arith in
    let f : b * 2 ^ (8 * r) ≡ b * 2 ^ k * 2 ^ 8 * 2 ^ (8 * s) =
    ap (λ (n : ℕ). b * 2 ^ n) e ∙ ap (λ (n : ℕ). b * n) (pow-add 2 (k + 8) (8 * s) ∙ ap (λ (n : ℕ). n * 2 ^ (8 * s)) (pow-add 2 k 8))
    ∙ sym (mul_assoc b (2 ^ k * 2 ^ 8) (2 ^ (8 * s))) ∙ ap (λ (n : ℕ). n * 2 ^ (8 * s)) (sym (mul_assoc b (2 ^ k) (2 ^ 8))) in
    ap (λ (n : ℕ). n / 2 ^ (8 * s) % 256) f ∙ ap (λ (n : ℕ). n % 256) (shl-shr (b * 2 ^ k * 2 ^ 8) (8 * s))
    ∙ ap (λ (n : ℕ). n % 256) (sym (add-zero (b * 2 ^ k * 2 ^ 8))) ∙ low (b * 2 ^ k) 8 (pow_pos 8)

other_digit : (b r s : ℕ) → b < 256 → r ≢ s → b * 2 ^ (8 * r) / 2 ^ (8 * s) % 256 ≡ 0
other_digit b r s h ne = by (dec_lt r s)
  where
    by : Dec (r < s) → b * 2 ^ (8 * r) / 2 ^ (8 * s) % 256 ≡ 0
    by (yes g) = lower_digit b r s h g
    by (no g) = higher_digit b r s (omega (arith, ne))

pub xor_byte_same : (a : List ℕ) (i b : ℕ) → i / 8 < length a → b < 256 → byte_at (xor_byte a i b) i ≡ bit_xor (byte_at a i) b
unfolding xor_byte
xor_byte_same a i b l h =
    byte_is (xor_byte a i b) i
    ∙ ap (λ (w : ℕ). w / 2 ^ (8 * (i % 8)) % 256) (get_or-set_same a (i / 8) _ 0 l)
    ∙ digit-xor (get_or a (i / 8) 0) b (i % 8) (i % 8)
    ∙ ap₂ bit_xor (sym (byte_is a i)) (same_digit b (i % 8) h)

pub xor_byte_other : (a : List ℕ) (i j b : ℕ) → i / 8 < length a → b < 256 → i ≢ j → byte_at (xor_byte a i b) j ≡ byte_at a j
unfolding xor_byte
xor_byte_other a i j b l h ne = by (ℕ_discrete (i / 8) (j / 8))
  where
    by : Dec (i / 8 ≡ j / 8) → byte_at (xor_byte a i b) j ≡ byte_at a j
    by (yes e) =
        let r : i % 8 ≢ j % 8 = λ f. ne (omega arith) in
        byte_is (xor_byte a i b) j
        ∙ ap (λ (q : ℕ). get_or (xor_byte a i b) q 0 / 2 ^ (8 * (j % 8)) % 256) (sym e)
        ∙ ap (λ (w : ℕ). w / 2 ^ (8 * (j % 8)) % 256) (get_or-set_same a (i / 8) _ 0 l)
        ∙ digit-xor (get_or a (i / 8) 0) b (i % 8) (j % 8)
        ∙ ap (bit_xor (get_or a (i / 8) 0 / 2 ^ (8 * (j % 8)) % 256)) (other_digit b (i % 8) (j % 8) h r)
        ∙ xor_zero_r _ ∙ ap (λ (q : ℕ). get_or a q 0 / 2 ^ (8 * (j % 8)) % 256) e ∙ sym (byte_is a j)
    by (no g) =
        byte_is (xor_byte a i b) j
        ∙ ap (λ (w : ℕ). w / 2 ^ (8 * (j % 8)) % 256) (get_or-set_other a (i / 8) (j / 8) _ 0 (λ e. g (sym e)))
        ∙ sym (byte_is a j)
