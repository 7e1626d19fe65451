-- The position and the number of the piece in hand are told by the total, and what each byte and each full piece keep is kept.
-- Assumes nothing.
use mathlib.Core.Path.{◌≡◌, sym, ap, ◌∙◌}
use mathlib.Core.List.{List, [], ◌∷◌}
use Prim.Native.Nat.{ℕ, zero, suc, ◌+◌, ◌*◌, ◌/◌, ◌%◌, ◌<◌}
use native.Mathlib.Nat.{suc-add, add-suc, add-zero, zero-mod, zero-div, mod-lt, div-add-mod'}
use native.Mathlib.Decide.{ℕ_discrete}
use native.Mathlib.Omega.{arith}
use lib.ListN.{length}
use lib.Arith.{digits_mod, digits_div}
use borrow.Author.Tests.{eq-eqb, ne_eqb}
use Rattle.sponge.specs.Waiting.{At, ready, step, steps, position_after, index_after}
use Rattle.sponge.specs.Model.{Sponge, after_byte, after_bytes}

-- ---- the next number's digits

module _ (m r : ℕ) (pos : 0 < r) where
  pub carry : suc (m % r) ≡ r → (suc m / r ≡ suc (m / r)) × (suc m % r ≡ 0)
  carry e =
      let w : suc m ≡ suc (m / r) * r + 0 = omega (arith, div-add-mod' m r) in
      (rw w (digits_div (suc (m / r)) pos), rw w (digits_mod (suc (m / r)) pos))

  pub stay : ¬ (suc (m % r) ≡ r) → (suc m / r ≡ m / r) × (suc m % r ≡ suc (m % r))
  stay ne =
      let w : suc m ≡ m / r * r + suc (m % r) = omega (arith, div-add-mod' m r) in
      let l : suc (m % r) < r = omega (arith, mod-lt m pos) in
      (rw w (digits_div (m / r) l), rw w (digits_mod (m / r) l))

-- ---- G holds of a piece's number, the position in it and the value: kept by a byte, and by a full piece

module _ {X : Type 0} (r : ℕ) (G : ℕ → ℕ → X → Type 0) where
  -- after n bytes
  pub record After (n : ℕ) (s : At X) : Type 0 where
    pub position_is : s.position ≡ position_after r n
    pub holds : G (index_after r n) (position_after r n) s.value

  -- before byte n
  record Before (n : ℕ) (s : At X) : Type 0 where
    position_is : s.position ≡ n % r
    holds : G (n / r) (n % r) s.value

module _ {X : Type 0} (full : X → X) (put : X → ℕ → ℕ → X) (r : ℕ) (pos : 0 < r) (G : ℕ → ℕ → X → Type 0)
    (on-put : (q o b : ℕ) (x : X) → G q o x → G q (suc o) (put x o b)) (on-full : (q : ℕ) (x : X) → G q r x → G (suc q) 0 (full x)) where
  before : (n : ℕ) (s : At X) → After r G n s → Before r G n (ready full r s)
  before zero s i = rw (i.position_is, ne_eqb 0 r (omega arith)) record { position_is = sym (zero-mod r); holds = rw (zero-div, zero-mod) i.holds }
  before (suc m) s i = by (ℕ_discrete (suc (m % r)) r)
    where
      by : Dec (suc (m % r) ≡ r) → Before r G (suc m) (ready full r s)
      by (yes e) =
          rw (eq-eqb s.position r (i.position_is ∙ e))
          record { position_is = sym (carry m r pos e).1; holds = rw ((carry m r pos e).0, (carry m r pos e).1) (on-full (m / r) s.value (rw e at i.holds)) }
      by (no ne) =
          rw (ne_eqb s.position r (λ q. ne (sym i.position_is ∙ q)))
          record { position_is = i.position_is ∙ sym (stay m r pos ne).1; holds = rw ((stay m r pos ne).0, (stay m r pos ne).1) i.holds }

  pub after_byte_lem : (n : ℕ) (s : At X) (b : ℕ) → After r G n s → After r G (suc n) (step full put r s b)
  after_byte_lem n s b i =
      let t : Before r G n (ready full r s) = before n s i in
      record { position_is = ap suc t.position_is; holds = rw t.position_is (on-put (n / r) (n % r) b (ready full r s).value t.holds) }

  pub after-steps : (n : ℕ) (s : At X) (p : List ℕ) → After r G n s → After r G (n + length p) (steps full put r s p)
  after-steps n s [] i = rw add-zero i
  after-steps n s (b ∷ p) i = rw add-suc (rw suc-add at (after-steps (suc n) (step full put r s b) p (after_byte_lem n s b i)))

-- ---- the position alone

module _ {X : Type 0} (full : X → X) (put : X → ℕ → ℕ → X) (r : ℕ) (pos : 0 < r) where
  pub steps-position : (n : ℕ) (s : At X) (p : List ℕ) → s.position ≡ position_after r n → (steps full put r s p).position ≡ position_after r (n + length p)
  steps-position n s p e = (after-steps full put r pos (λ q o x. Unit {0}) (λ q o b x h. tt) (λ q x h. tt) n s p (record { position_is = e; holds = tt })).position_is

module _ (P : List ℕ → List ℕ) (rate : ℕ) (pos : 0 < rate) where
  pub after-position : (n : ℕ) (s : Sponge) (k : ℕ) → s.position ≡ position_after rate n → (after_bytes P rate k s).position ≡ position_after rate (n + k)
  after-position n s zero e = rw add-zero e
  after-position n s (suc k) e =
      rw add-suc (rw suc-add at (after-position (suc n) (after_byte P rate s) k
      (after_byte_lem P (λ a i b. a) rate pos (λ q o x. Unit {0}) (λ q o b x h. tt) (λ q x h. tt) n s 0 (record { position_is = e; holds = tt })).position_is))
