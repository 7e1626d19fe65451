-- The first of two statuses.
-- Assumes nothing.
use mathlib.Core.Path.{◌≡◌, refl, ap}
use Prim.Native.Nat.{ℕ, zero, suc}
use native.Mathlib.Omega.{arith}
use Rattle.sponge.specs.Status.{first_of}

pub first_refused : (m n : ℕ) → (m ≡ 0 → ⊥) → first_of m n ≡ m
first_refused zero n h = absurd (h refl)
first_refused (suc m) n h = refl

pub first_done : (m n : ℕ) → m ≡ 0 → first_of m n ≡ n
first_done m n e = ap (λ (k : ℕ). first_of k n) e

-- the first of two is 0 only where both are
pub first_zero : (m n : ℕ) → first_of m n ≡ 0 → (m ≡ 0) × (n ≡ 0)
first_zero zero n e = (refl, e)
first_zero (suc m) n e = absurd (omega arith)
