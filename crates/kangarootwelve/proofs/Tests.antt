-- The test of status 5 by the cases of the code: what the bytes of M and C tell, and the test of an open and of a closed run.
-- Assumes nothing.
use mathlib.Core.Path.{◌≡◌, refl, sym, ap, ◌∙◌}
use mathlib.Core.Bool.{Bool, true, false, cond, ◌&&◌}
use Prim.Native.Nat.{ℕ, zero, suc, ◌+◌, ◌-◌, ◌*◌, ◌≤◌, ◌<◌}
use native.Mathlib.Omega.{arith}
use lib.Dec.{eqb}
use borrow.Author.Tests.{eq-eqb, ne_eqb, le-leb, lt-leb}
use Rattle.sponge.specs.Waiting.{position_after, index_after}
use Rattle.turboshake.specs.Transcript.{message_limit, output_limit}
use Rattle.kangarootwelve.specs.Published.{chunk}
use Rattle.kangarootwelve.specs.Transcript.{customization_limit}
use Rattle.kangarootwelve.specs.Count.{tree_count, open_kt, closed_kt}
use Rattle.kangarootwelve.specs.Model.{final_due, leaf_due, placed, reachable}
use Rattle.kangarootwelve.specs.Inside.{reached_at, open_due}
use Rattle.kangarootwelve.specs.declared.Progress.{Progress}
use Rattle.kangarootwelve.proofs.Published.{chunk_is}

-- ---- what the bytes of M and C tell

-- i is the number of the chunk in hand
pub final_first : (rate chaining n i p : ℕ) → i ≡ index_after chunk n → i ≡ 0 → p ≡ position_after rate (position_after chunk n) → p ≡ final_due rate chaining n
final_first rate chaining n i p e z h = h ∙ rw (sym e ∙ z)

pub final-later : (rate chaining n i p : ℕ) → i ≡ index_after chunk n → (i ≡ 0 → ⊥) → p ≡ position_after rate (chunk + 8 + (i - 1) * chaining) → p ≡ final_due rate chaining n
final-later rate chaining n zero p e z h = absurd (z refl)
final-later rate chaining n (suc i) p e z h = let k : suc i - 1 ≡ i = omega arith in h ∙ rw (k, ← e)

pub leaf_first : (rate n i : ℕ) → i ≡ index_after chunk n → i ≡ 0 → 0 ≡ leaf_due rate n
leaf_first rate n i e z = rw (sym e ∙ z)

pub leaf-later : (rate n i p : ℕ) → i ≡ index_after chunk n → (i ≡ 0 → ⊥) → p ≡ position_after rate (position_after chunk n) → p ≡ leaf_due rate n
leaf-later rate n zero p e z h = absurd (z refl)
leaf-later rate n (suc i) p e z h = h ∙ rw (← e)

pub open_is : (rate chaining n i p r : ℕ) → i ≡ index_after chunk n → p ≡ position_after 8192 n → r ≡ tree_count rate chaining i p → r ≡ open_kt rate chaining n
unfolding open_kt
open_is rate chaining n i p r e f g =
    let p-is : p ≡ position_after chunk n = f ∙ ap (λ (k : ℕ). position_after k n) (sym chunk_is) in
    g ∙ (λ t. tree_count rate chaining (e t) (p-is t))

module _ (rate chaining : ℕ) (p : Progress) where
  pub other_count : (w : ℕ) → w ≡ open_kt rate chaining (p.absorbed + p.customized) → (p.permutations ≡ w → ⊥) → false ≡ open_due rate chaining p
  other_count w e h = rw (← e, ne_eqb p.permutations w h) (by (eqb p.node (final_due rate chaining (p.absorbed + p.customized))) (eqb p.leaf (leaf_due rate (p.absorbed + p.customized))))
    where
      by : (a b : Bool) → false ≡ (a && (b && false))
      by true true = refl
      by true false = refl
      by false b = refl

  pub other_leaf : (l : ℕ) → l ≡ leaf_due rate (p.absorbed + p.customized) → (p.leaf ≡ l → ⊥) → false ≡ open_due rate chaining p
  other_leaf l e h = rw (← e, ne_eqb p.leaf l h) (by (eqb p.node (final_due rate chaining (p.absorbed + p.customized))))
    where
      by : (a : Bool) → false ≡ (a && false)
      by true = refl
      by false = refl

  pub node_left : (w l f : ℕ) → w ≡ open_kt rate chaining (p.absorbed + p.customized) → p.permutations ≡ w → l ≡ leaf_due rate (p.absorbed + p.customized) → p.leaf ≡ l
      → f ≡ final_due rate chaining (p.absorbed + p.customized) → eqb p.node f ≡ open_due rate chaining p
  node_left w l f e h d g c = rw (← e, eq-eqb p.permutations w h, ← d, eq-eqb p.leaf l g, ← c) (by (eqb p.node f))
    where
      by : (a : Bool) → a ≡ (a && true)
      by true = refl
      by false = refl

-- ---- the test of status 5

module _ (rate chaining f l h n m k : ℕ) where
  pub long : message_limit < n → false ≡ placed rate chaining f l h n m k
  unfolding placed
  long a = rw (lt-leb n message_limit a)

  -- t is the most customization bytes in this phase
  module _ (a : n ≤ message_limit) (t : ℕ) (t-is : t ≡ cond (eqb h 0) 0 customization_limit) where
    pub customized_long : t < m → false ≡ placed rate chaining f l h n m k
    unfolding placed
    customized_long b = rw (le-leb n message_limit a, ← t-is, lt-leb m t b)

    module _ (b : m ≤ t) where
      module _ (c : h ≡ 1) where
        pub closed_long : output_limit < k → false ≡ placed rate chaining f l h n m k
        unfolding placed
        closed_long d = rw (le-leb n message_limit a, ← t-is, le-leb m t b, eq-eqb h 1 c, lt-leb k output_limit d)

        module _ (e : k ≤ output_limit) (d : ℕ) (d-is : d ≡ position_after rate k) where
          pub closed_node : (f ≡ d → ⊥) → false ≡ placed rate chaining f l h n m k
          unfolding placed
          closed_node g = rw (le-leb n message_limit a, ← t-is, le-leb m t b, eq-eqb h 1 c, le-leb k output_limit e, ← d-is, ne_eqb f d g)

      module _ (c : h ≡ 1 → ⊥) where
        pub no_phase : 2 < h → false ≡ placed rate chaining f l h n m k
        unfolding placed
        no_phase e = rw (le-leb n message_limit a, ← t-is, le-leb m t b, ne_eqb h 1 c, lt-leb h 2 e)

        module _ (e : h ≤ 2) where
          pub open_squeezed : (k ≡ 0 → ⊥) → false ≡ placed rate chaining f l h n m k
          unfolding placed
          open_squeezed g = rw (le-leb n message_limit a, ← t-is, le-leb m t b, ne_eqb h 1 c, le-leb h 2 e, ne_eqb k 0 g)

-- the most in any phase
pub most-fits : (h m : ℕ) → m ≤ cond (eqb h 0) 0 customization_limit → m ≤ customization_limit
most-fits h m l = by (eqb h 0) l
  where
    by : (b : Bool) → m ≤ cond b 0 customization_limit → m ≤ customization_limit
    by true l = omega arith
    by false l = l

-- ---- of an open run, and of a closed one

module _ (rate chaining : ℕ) (p : Progress) where
  abbrev Placed : Bool
  Placed = placed rate chaining p.node p.leaf p.phase p.absorbed p.customized p.squeezed

  not_reached : false ≡ Placed → false ≡ reached_at rate chaining p
  unfolding reachable
  not_reached e = rw (← e)

  pub not_open : false ≡ Placed → false ≡ cond (eqb p.phase 1) false (reached_at rate chaining p)
  not_open e = by (eqb p.phase 1) (not_reached e)
    where
      by : (b : Bool) → false ≡ reached_at rate chaining p → false ≡ cond b false (reached_at rate chaining p)
      by true g = refl
      by false g = g

  pub not_closed : false ≡ Placed → false ≡ cond (eqb p.phase 1) (reached_at rate chaining p) false
  not_closed e = by (eqb p.phase 1) (not_reached e)
    where
      by : (b : Bool) → false ≡ reached_at rate chaining p → false ≡ cond b (reached_at rate chaining p) false
      by true g = g
      by false g = refl

  pub open_due_lem : p.absorbed ≤ message_limit → (t : ℕ) → t ≡ cond (eqb p.phase 0) 0 customization_limit → p.customized ≤ t → (p.phase ≡ 1 → ⊥) → p.phase ≤ 2 → p.squeezed ≡ 0
      → open_due rate chaining p ≡ cond (eqb p.phase 1) false (reached_at rate chaining p)
  unfolding placed reachable
  open_due_lem a t t-is b c e z =
      rw (le-leb p.absorbed message_limit a, ← t-is, le-leb p.customized t b, ne_eqb p.phase 1 c, le-leb p.phase 2 e, eq-eqb p.squeezed 0 z)
      (by (eqb p.node (final_due rate chaining (p.absorbed + p.customized))) (eqb p.leaf (leaf_due rate (p.absorbed + p.customized))) (eqb p.permutations (open_kt rate chaining (p.absorbed + p.customized))))
    where
      by : (x y w : Bool) → (x && (y && w)) ≡ ((x && y) && w)
      by true y w = refl
      by false y w = refl

  -- what is left of a closed run's test when its phase, totals and final position fit
  module _ (c : p.phase ≡ 1) (a : p.absorbed ≤ message_limit) (m : p.customized ≤ customization_limit) (k : p.squeezed ≤ output_limit) (d : ℕ) (d-is : d ≡ position_after rate p.squeezed)
      (f : p.node ≡ d) (w : ℕ) (w-is : w ≡ closed_kt rate chaining (p.absorbed + p.customized) p.customized p.squeezed) where
    left : cond (eqb p.phase 1) (reached_at rate chaining p) false ≡ (eqb p.leaf 0 && eqb p.permutations w)
    unfolding placed reachable
    left =
        rw (eq-eqb p.phase 1 c, ne_eqb p.phase 0 (λ e. omega (arith, c, e)), le-leb p.absorbed message_limit a, le-leb p.customized customization_limit m, le-leb p.squeezed output_limit k, ← d-is, eq-eqb p.node d f, w-is)

    pub closed_count_lem : (p.permutations ≡ w → ⊥) → false ≡ cond (eqb p.phase 1) (reached_at rate chaining p) false
    closed_count_lem h = by (eqb p.leaf 0) ∙ sym (left ∙ rw (ne_eqb p.permutations w h))
      where
        by : (b : Bool) → false ≡ (b && false)
        by true = refl
        by false = refl

    pub closed_leaf : p.permutations ≡ w → eqb p.leaf 0 ≡ cond (eqb p.phase 1) (reached_at rate chaining p) false
    closed_leaf h = by (eqb p.leaf 0) ∙ sym (left ∙ rw (eq-eqb p.permutations w h))
      where
        by : (b : Bool) → b ≡ (b && true)
        by true = refl
        by false = refl

-- a closed run's most customization bytes
pub closed_most : (h : ℕ) → h ≡ 1 → customization_limit ≡ cond (eqb h 0) 0 customization_limit
closed_most h e = rw (ne_eqb h 0 (λ z. omega (arith, e, z)))
