-- A test of five binary digits, proved for all digits by one computed test of the 32 cases.
-- Assumes nothing.
use mathlib.Core.Bool.{Bool}
use Prim.Native.Nat.{ℕ, zero, suc, ◌<◌}
use native.Mathlib.Omega.{arith}
use lib.Dec.{T}
use Rattle.keccak.proofs.Table.{both, both_left, both_right}

-- the test passes at 0 and at 1
abbrev pub passes : (ℕ → Bool) → Bool
passes f = both (f 0) (f 1)

passed : (f : ℕ → Bool) → T (passes f) → (d : ℕ) → d < 2 → T (f d)
passed f t zero h = both_left (f 0) (f 1) t
passed f t (suc zero) h = both_right (f 0) (f 1) t
passed f t (suc (suc d)) h = absurd (omega arith)

pub passed_five : (f : ℕ → ℕ → ℕ → ℕ → ℕ → Bool)
    → T (passes (λ a. passes (λ b. passes (λ c. passes (λ d. passes (λ e. f a b c d e))))))
    → (a b c d e : ℕ) → a < 2 → b < 2 → c < 2 → d < 2 → e < 2 → T (f a b c d e)
passed_five f t a b c d e ha hb hc hd he =
    passed (f a b c d)
    (passed (λ d. passes (f a b c d))
    (passed (λ c. passes (λ d. passes (f a b c d)))
    (passed (λ b. passes (λ c. passes (λ d. passes (f a b c d))))
    (passed (λ a. passes (λ b. passes (λ c. passes (λ d. passes (f a b c d))))) t a ha) b hb) c hc) d hd) e he
