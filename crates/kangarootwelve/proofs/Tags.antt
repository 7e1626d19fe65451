-- What the tag check's answer says: yes exactly where the call is done and the presented tag is the HopMAC of as many bytes.
-- Assumes nothing.
use mathlib.Core.Path.{◌≡◌, refl, sym, ap, ap₂, ◌∙◌}
use mathlib.Core.Bool.{true, false, cond, false≢true, and-eq-true_iff, and-false}
use mathlib.Core.List.{List, [], ◌∷◌}
use Prim.Native.Nat.{ℕ, zero, suc}
use borrow.Author.Tests.{eq-eqb, ne_eqb, eqb-true}
use lib.Dec.{eqb, eqb-suc-zero}
use lib.ListN.{length}
use Rattle.kangarootwelve.specs.Published.{hopmac}
use Rattle.kangarootwelve.specs.Mac.{check_status, same_bytes, verdict_of}

-- ---- the comparison tells equal strings, and no others

pub same_equal : (a b : List ℕ) → same_bytes a b ≡ true → a ≡ b
same_equal [] [] e = refl
same_equal [] (y ∷ b) e = cc
same_equal (x ∷ a) [] e = cc
same_equal (x ∷ a) (y ∷ b) e =
    let s = (and-eq-true_iff (eqb x y) (same_bytes a b)).0 e in
    ap₂ (λ (z : ℕ) (l : List ℕ). z ∷ l) (eqb-true x y s.0) (same_equal a b s.1)

pub equal_same : (a : List ℕ) → same_bytes a a ≡ true
equal_same [] = refl
equal_same (x ∷ a) = rw (eq-eqb x x refl) (equal_same a)

-- strings of different lengths are different
pub same_lengths : (a b : List ℕ) → (length a ≡ length b → ⊥) → same_bytes a b ≡ false
same_lengths [] [] h = absurd (h refl)
same_lengths [] (y ∷ b) h = refl
same_lengths (x ∷ a) [] h = refl
same_lengths (x ∷ a) (y ∷ b) h = rw (same_lengths a b (λ e. h (ap suc e))) (and-false (eqb x y))

-- ---- the answer

module _ (rate chaining inner : ℕ) (key m c t : List ℕ) where
  -- document 01's yes, both directions
  pub valid_exactly :
      ((verdict_of rate chaining inner key m c t).valid ≡ true
      → ((verdict_of rate chaining inner key m c t).status ≡ 0) × (t ≡ hopmac rate chaining inner key m c (length t)))
      × (((verdict_of rate chaining inner key m c t).status ≡ 0) × (t ≡ hopmac rate chaining inner key m c (length t))
      → (verdict_of rate chaining inner key m c t).valid ≡ true)
  unfolding verdict_of
  valid_exactly = (λ e. yes_is (check_status (length key) (length m) (length c) (length t)) e, λ e. rw (eq-eqb _ 0 e.0) (is_yes e.1))
    where
      yes_is : (s : ℕ) → cond (eqb s 0) (same_bytes (hopmac rate chaining inner key m c (length t)) t) false ≡ true → (s ≡ 0) × (t ≡ hopmac rate chaining inner key m c (length t))
      yes_is zero e = (refl, sym (same_equal (hopmac rate chaining inner key m c (length t)) t e))
      yes_is (suc s) e = absurd (false≢true (rw (eqb-suc-zero s) at e))

      is_yes : t ≡ hopmac rate chaining inner key m c (length t) → same_bytes (hopmac rate chaining inner key m c (length t)) t ≡ true
      is_yes e = ap (same_bytes (hopmac rate chaining inner key m c (length t))) e ∙ equal_same (hopmac rate chaining inner key m c (length t))

  -- a refused call says no
  pub refused_no : ((verdict_of rate chaining inner key m c t).status ≡ 0 → ⊥) → (verdict_of rate chaining inner key m c t).valid ≡ false
  unfolding verdict_of
  refused_no h = rw (ne_eqb _ 0 h)
