-- A loop that writes one lane of a grid after the other.
-- Assumes nothing.
use mathlib.Core.Path.{◌≡◌, sym, ap, ◌∙◌, subst}
use mathlib.Core.List.{List}
use Prim.Native.Nat.{ℕ, ◌+◌, ◌/◌, ◌%◌, ◌<◌}
use native.Mathlib.Decide.{ℕ_discrete}
use native.Mathlib.Omega.{arith}
use lib.ListN.{length, get_or, set, length-set}
use lib.Seq.{ext_get_or, get_or-set_same, get_or-set_other}
use Rattle.keccak.specs.State.{grid}
use Rattle.keccak.proofs.Grid.{grid-length, grid_at}

-- of the 25 lanes b the first i are those of f's grid
pub record Filled (f : ℕ → ℕ → ℕ) (i : ℕ) (b : List ℕ) : Type 0 where
  pub lanes : length b ≡ 25
  pub filled : (k : ℕ) → k < i → get_or b k 0 ≡ f (k % 5) (k / 5)

module _ (f : ℕ → ℕ → ℕ) where
  pub none_filled : (b : List ℕ) → length b ≡ 25 → Filled f 0 b
  none_filled b e = record { lanes = e; filled = λ k h. absurd (omega arith) }

  pub one_filled : (i v : ℕ) (b : List ℕ) → i < 25 → v ≡ f (i % 5) (i / 5) → Filled f i b → Filled f (i + 1) (set b i v)
  one_filled i v b h e p = record { lanes = length-set b i v ∙ p.lanes; filled = λ k g. by k g (ℕ_discrete k i) }
    where
      by : (k : ℕ) → k < i + 1 → Dec (k ≡ i) → get_or (set b i v) k 0 ≡ f (k % 5) (k / 5)
      by k g (yes q) =
          let l : i < length b = omega (arith, p.lanes) in
          ap (λ (n : ℕ). get_or (set b i v) n 0) q ∙ get_or-set_same b i v 0 l ∙ e ∙ sym (ap (λ (n : ℕ). f (n % 5) (n / 5)) q)
      by k g (no q) = get_or-set_other b i k v 0 q ∙ p.filled k (omega (arith, q))

  pub all_filled : (i : ℕ) (b : List ℕ) → (i < 25 → ⊥) → Filled f i b → b ≡ grid f
  all_filled i b h p =
      ext_get_or 0 b (grid f) (p.lanes ∙ sym (grid-length f))
      λ k g.
      let g' : k < 25 = subst (λ (n : ℕ). k < n) p.lanes g in
      let gi : k < i = omega (arith, h) in
      p.filled k gi ∙ sym (grid_at f k g')
