-- Bytes XORed into lanes: nothing changes nothing, two at one place are their XOR, no two states become one, and a state stays one.
-- Assumes nothing.
use mathlib.Core.Path.{◌≡◌, refl, sym, ap, ap₂, ◌∙◌}
use mathlib.Core.List.{List}
use Prim.Native.Nat.{ℕ, ◌+◌, ◌*◌, ◌/◌, ◌%◌, ◌^◌, ◌<◌, ◌≤◌}
use native.Mathlib.Nat.{zero-mul, add-zero, lt_of_lt_of_le}
use native.Mathlib.Decide.{dec_lt}
use native.Mathlib.Omega.{arith}
use lib.ListN.{length, get_or, set, length-set}
use lib.Seq.{set-get_or, set-set, get_or-set_same, set_out}
use lib.Pow.{pow_pos, shl_lt, pow_mono}
use lib.Bits.{bit_xor, xor_zero_r, xor_block, xor_self, xor_lt}
use Rattle.keccak.specs.State.{State}
use Rattle.keccak.proofs.Xor.{xor_assoc}
use Rattle.keccak.proofs.States.{set_words}
use Rattle.sponge.specs.Published.{xor_byte}

pub xor_shl : (a b k : ℕ) → bit_xor (a * 2 ^ k) (b * 2 ^ k) ≡ bit_xor a b * 2 ^ k
xor_shl a b k = ap₂ bit_xor (sym (add-zero (a * 2 ^ k))) (sym (add-zero (b * 2 ^ k))) ∙ xor_block k a b 0 0 (pow_pos k) (pow_pos k) ∙ add-zero _

-- what it is, for crates above
pub xor_byte_is : (a : List ℕ) (i b : ℕ) → xor_byte a i b ≡ set a (i / 8) (bit_xor (get_or a (i / 8) 0) (b * 2 ^ (8 * (i % 8))))
unfolding xor_byte
xor_byte_is a i b = refl

pub xor_byte-zero : (a : List ℕ) (i : ℕ) → xor_byte a i 0 ≡ a
unfolding xor_byte
xor_byte-zero a i = rw (zero-mul, xor_zero_r, set-get_or)

pub xor_byte_twice : (a : List ℕ) (i x y : ℕ) → xor_byte (xor_byte a i x) i y ≡ xor_byte a i (bit_xor x y)
unfolding xor_byte
xor_byte_twice a i x y = by (dec_lt (i / 8) (length a))
  where
    by : Dec (i / 8 < length a) → xor_byte (xor_byte a i x) i y ≡ xor_byte a i (bit_xor x y)
    by (yes h) = rw (set-set, get_or-set_same, xor_assoc, xor_shl)
    by (no h) = let o : length a ≤ i / 8 = omega arith in set-set a (i / 8) _ _ ∙ set_out a (i / 8) _ o ∙ sym (set_out a (i / 8) _ o)

-- XORed in again it is gone
xor_byte-undone : (a : List ℕ) (i b : ℕ) → xor_byte (xor_byte a i b) i b ≡ a
xor_byte-undone a i b = xor_byte_twice a i b b ∙ ap (xor_byte a i) (xor_self b) ∙ xor_byte-zero a i

pub xor_byte-injective : (a c : List ℕ) (i b : ℕ) → xor_byte a i b ≡ xor_byte c i b → a ≡ c
xor_byte-injective a c i b e = sym (xor_byte-undone a i b) ∙ ap (λ (l : List ℕ). xor_byte l i b) e ∙ xor_byte-undone c i b

-- a state stays a state
byte_in_lane : (i b : ℕ) → b < 256 → b * 2 ^ (8 * (i % 8)) < 2 ^ 64
byte_in_lane i b h = let g : 8 + 8 * (i % 8) ≤ 64 = omega arith in lt_of_lt_of_le (shl_lt 8 (8 * (i % 8)) h) (pow_mono g)

pub xor_byte-state : (a : List ℕ) (i b : ℕ) → b < 256 → State a → State (xor_byte a i b)
unfolding xor_byte
xor_byte-state a i b h s = record {
  lanes = length-set a (i / 8) _ ∙ s.lanes;
  words = set_words a (i / 8) _ s.words (xor_lt 64 _ _ (s.words (i / 8)) (byte_in_lane i b h));
}
