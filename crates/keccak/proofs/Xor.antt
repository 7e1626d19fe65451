-- XOR is associative, and the same word XORed in again is gone.
-- Assumes nothing.
use mathlib.Core.Path.{◌≡◌, refl, sym, ap, ap₂, ◌∙◌}
use Prim.Native.Nat.{ℕ, zero, suc, ◌+◌, ◌*◌, ◌/◌, ◌%◌, ◌<◌}
use native.Mathlib.Nat.{mod-lt}
use native.Mathlib.Omega.{arith}
use lib.Arith.{bin_ind}
use lib.Bits.{bit_xor, differ, xor_step, xor_self, xor_zero_r, xor_shr, xor_mod}
use lib.Dec.{lit<}

bit_assoc : (x y z : ℕ) → x < 2 → y < 2 → z < 2 → differ (bit_xor x y) z ≡ differ x (bit_xor y z)
bit_assoc zero zero z p q r = refl
bit_assoc zero (suc zero) zero p q r = refl
bit_assoc zero (suc zero) (suc zero) p q r = refl
bit_assoc zero (suc zero) (suc (suc z)) p q r = absurd (omega arith)
bit_assoc zero (suc (suc y)) z p q r = absurd (omega arith)
bit_assoc (suc zero) zero zero p q r = refl
bit_assoc (suc zero) zero (suc zero) p q r = refl
bit_assoc (suc zero) zero (suc (suc z)) p q r = absurd (omega arith)
bit_assoc (suc zero) (suc zero) zero p q r = refl
bit_assoc (suc zero) (suc zero) (suc zero) p q r = refl
bit_assoc (suc zero) (suc zero) (suc (suc z)) p q r = absurd (omega arith)
bit_assoc (suc zero) (suc (suc y)) z p q r = absurd (omega arith)
bit_assoc (suc (suc x)) y z p q r = absurd (omega arith)

pub xor_assoc : (a b c : ℕ) → bit_xor (bit_xor a b) c ≡ bit_xor a (bit_xor b c)
xor_assoc =
    bin_ind (λ (a : ℕ). (b c : ℕ) → bit_xor (bit_xor a b) c ≡ bit_xor a (bit_xor b c)) (λ b c. refl)
    (λ a ih b c.
    xor_step (bit_xor a b) c
    ∙ ap₂ (λ (x y : ℕ). bit_xor x (c / 2) * 2 + differ y (c % 2)) (xor_shr a b 1) (xor_mod a b 1)
    ∙ ap₂ (λ (x y : ℕ). x * 2 + y) (ih (b / 2) (c / 2)) (bit_assoc (a % 2) (b % 2) (c % 2) (mod-lt a (lit< tt)) (mod-lt b (lit< tt)) (mod-lt c (lit< tt)))
    ∙ sym (ap₂ (λ (x y : ℕ). bit_xor (a / 2) x * 2 + differ (a % 2) y) (xor_shr b c 1) (xor_mod b c 1))
    ∙ sym (xor_step a (bit_xor b c)))

pub xor_again : (a b : ℕ) → bit_xor (bit_xor a b) b ≡ a
xor_again a b = xor_assoc a b b ∙ ap (bit_xor a) (xor_self b) ∙ xor_zero_r a
