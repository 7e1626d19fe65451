-- What a lent output or slice holds, by the call's status.
-- Assumes nothing.
use mathlib.Core.Path.{◌≡◌, refl, sym, ap}
use mathlib.Core.List.{List}
use Prim.Native.Nat.{ℕ, zero, suc}
use Rattle.sponge.specs.Transcript.{lent}

-- a refused call leaves it as it was
pub lent-refused : (n : ℕ) → (n ≡ 0 → ⊥) → (new old : List ℕ) → old ≡ lent n new old
lent-refused zero h new old = absurd (h refl)
lent-refused (suc n) h new old = refl

pub lent_done : (n : ℕ) → n ≡ 0 → (new old : List ℕ) → new ≡ lent n new old
lent_done n e new old = ap (λ (k : ℕ). lent k new old) (sym e)
