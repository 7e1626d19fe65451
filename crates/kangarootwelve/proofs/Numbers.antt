-- What the functions that compute the number of permutations ask: their parts fit a machine word, and make up what the totals tell.
-- Assumes nothing.
use mathlib.Core.Path.{◌≡◌, refl, sym, ap, ◌∙◌, subst}
use Prim.Native.Nat.{ℕ, zero, suc, ◌+◌, ◌-◌, ◌*◌, ◌/◌, ◌^◌, ◌≤◌, ◌<◌, zero-le}
use native.Mathlib.Nat.{add-zero, div-le_self, mul-le-mul_left}
use native.Mathlib.Omega.{arith}
use borrow.Author.Tests.{ne_eqb, eqb-true}
use lib.Dec.{eqb}
use mathlib.Core.Bool.{true, cond, and-eq-true_iff}
use lib.ListN.{length}
use Rattle.sponge.specs.Waiting.{position_after, index_after}
use Rattle.sponge.specs.Count.{open_count, closed_count}
use Rattle.sponge.proofs.Count.{added-index, added_none, position-none}
use Rattle.turboshake.specs.Transcript.{message_limit}
use Rattle.kangarootwelve.specs.Published.{length_encode, chunk}
use Rattle.kangarootwelve.specs.Transcript.{customization_limit}
use Rattle.kangarootwelve.specs.Count.{tree_count, closed_tree, open_kt, closed_kt}
use Rattle.kangarootwelve.specs.Model.{final_due, leaf_due}
use Rattle.kangarootwelve.specs.Inside.{place_of, open_due}
use Rattle.kangarootwelve.specs.declared.Place.{Place}
use Rattle.kangarootwelve.specs.declared.Progress.{Progress}
use Rattle.kangarootwelve.proofs.Published.{chunk_is, chunk_pos}
use Rattle.kangarootwelve.proofs.Nodes.{position-le}

pub open_count_is : (rate n : ℕ) → (n ≡ 0 → ⊥) → ((n - 1) / rate ≡ open_count rate n) × ((n - 1) / rate ≤ n)
open_count_is rate zero h = absurd (h refl)
open_count_is rate (suc n) h =
    let e : suc n - 1 ≡ n = omega arith in
    (rw e, rw e (let l = div-le_self n rate in omega arith))

-- ---- the parts fit

pub leaves_fit : (k v chaining : ℕ) → v ≤ 8192 + chaining + 1 → chaining ≤ 64 → k ≤ customization_limit → k * v ≤ 2 ^ 40
leaves_fit k v chaining h g l =
    let few : v ≤ 8257 = omega arith in
    let each = mul-le-mul_left k few in
    omega arith

pub values_most : (k chaining : ℕ) → chaining ≤ 64 → k ≤ customization_limit → k * chaining ≤ customization_limit * 64
values_most k chaining h l = let each = mul-le-mul_left k h in omega arith

pub index-fits : (n i : ℕ) → i ≡ index_after chunk n → n ≤ message_limit + customization_limit + 4 → i ≤ customization_limit
index-fits zero i e h = rw e zero-le
index-fits (suc n) i e h = let f : i ≡ n / 8192 = e ∙ rw chunk_is in omega arith

-- ---- and make up the number

module _ (rate chaining : ℕ) where
  pub tree_first : (q o r : ℕ) → q ≡ 0 → r ≡ open_count rate o → r ≡ tree_count rate chaining q o
  tree_first q o r z e = e ∙ rw z

  pub tree-later : (q o a b d : ℕ) → (q ≡ 0 → ⊥) → a ≡ open_count rate (chunk + 8 + (q - 1) * chaining) → b ≡ (q - 1) * closed_count rate chunk chaining → d ≡ open_count rate o
      → a + b + d ≡ tree_count rate chaining q o
  tree-later zero o a b d z e f g = absurd (z refl)
  tree-later (suc k) o a b d z e f g = let k-is : suc k - 1 ≡ k = omega arith in rw (e, f, g, k-is)

  pub closed_first : (q o j r : ℕ) → q ≡ 0 → r ≡ closed_count rate o j → r ≡ closed_tree rate chaining q o j
  closed_first q o j r z e = e ∙ rw z

  pub closed_later : (q o j l a b d : ℕ) → (q ≡ 0 → ⊥) → l ≡ length (length_encode q) → a ≡ closed_count rate (chunk + 8 + q * chaining + l + 2) j
      → b ≡ (q - 1) * closed_count rate chunk chaining → d ≡ closed_count rate o chaining → a + b + d ≡ closed_tree rate chaining q o j
  closed_later zero o j l a b d z n e f g = absurd (z refl)
  closed_later (suc k) o j l a b d z n e f g = let k-is : suc k - 1 ≡ k = omega arith in rw (e, f, g, k-is, n)

  pub closed_is : (n c j l i p r : ℕ) → l ≡ length (length_encode c) → i ≡ index_after chunk (n + l) → p ≡ position_after 8192 (n + l) → r ≡ closed_tree rate chaining i p j
      → r ≡ closed_kt rate chaining n c j
  unfolding closed_kt
  closed_is n c j l i p r w e f g =
      let i-is : i ≡ index_after chunk (n + length (length_encode c)) = e ∙ ap (λ (k : ℕ). index_after chunk (n + k)) w in
      let p-is : p ≡ position_after chunk (n + length (length_encode c)) = f ∙ ap (λ (k : ℕ). position_after k (n + l)) (sym chunk_is) ∙ ap (λ (k : ℕ). position_after chunk (n + k)) w in
      g ∙ (λ t. closed_tree rate chaining (i-is t) (p-is t) j)

-- ---- within the block and the chunk in hand the number stays

module _ (rate chaining : ℕ) (pos : 0 < rate) (p : Progress) (from : Place) where
  abbrev bytes : ℕ
  bytes = p.absorbed + p.customized

  abbrev InHand : ℕ
  InHand = cond (eqb from.index 0) from.node from.leaf

  parts : open_due rate chaining p ≡ true → (p.node ≡ final_due rate chaining bytes) × (p.leaf ≡ leaf_due rate bytes) × (p.permutations ≡ open_kt rate chaining bytes)
  parts e =
      let a = (and-eq-true_iff (eqb p.node (final_due rate chaining bytes)) _).0 e in
      let b = (and-eq-true_iff (eqb p.leaf (leaf_due rate bytes)) (eqb p.permutations (open_kt rate chaining bytes))).0 a.1 in
      (eqb-true _ _ a.0, eqb-true _ _ b.0, eqb-true _ _ b.1)

  -- the position due in the node that the chunk in hand goes into
  in_hand_is : open_due rate chaining p ≡ true → from ≡ place_of p → InHand ≡ position_after rate (position_after chunk bytes)
  in_hand_is e f =
      let w = parts e in
      ap (λ (q : Place). cond (eqb q.index 0) q.node q.leaf) f ∙ by (index_after chunk bytes) refl w.0 w.1
    where
      by : (i : ℕ) → index_after chunk bytes ≡ i → p.node ≡ final_due rate chaining bytes → p.leaf ≡ leaf_due rate bytes → cond (eqb (index_after chunk bytes) 0) p.node p.leaf ≡ position_after rate (position_after chunk bytes)
      by zero z n l = rw z (n ∙ rw z)
      by (suc i) z n l = rw (z, ne_eqb (suc i) 0 (λ e. omega arith)) (l ∙ rw z)

  pub hand_fits : open_due rate chaining p ≡ true → from ≡ place_of p → InHand ≤ rate
  hand_fits e f = rw (in_hand_is e f) (position-le rate pos (position_after chunk bytes))

  pub stays_within : (more : ℕ) → open_due rate chaining p ≡ true → from ≡ place_of p → (h : ℕ) → h ≡ InHand → more ≤ rate - h → more ≤ 8192 - from.position
      → p.permutations ≡ open_kt rate chaining (bytes + more)
  unfolding open_kt
  stays_within more e f h h-is b c =
      let o : ℕ = position_after chunk bytes in
      let at : from.position ≡ o = ap (λ (q : Place). q.position) f in
      let hand : h ≡ position_after rate o = h-is ∙ in_hand_is e f in
      let fits : h ≤ rate = rw hand (position-le rate pos o) in
      let most : o ≤ 8192 = subst (λ (k : ℕ). o ≤ k) chunk_is (position-le chunk chunk_pos bytes) in
      let within : o + more ≤ 8192 = omega (arith, at, c, most) in
      let inside : o + more ≤ chunk = subst (λ (k : ℕ). o + more ≤ k) (sym chunk_is) within in
      let index : index_after chunk (bytes + more) ≡ index_after chunk bytes = sym (added-index chunk chunk_pos bytes more) ∙ rw (added_none chunk o more inside, add-zero) in
      let position : position_after chunk (bytes + more) ≡ o + more = position-none chunk chunk_pos bytes more inside in
      let count : open_count rate (o + more) ≡ open_count rate o = sym (added-index rate pos o more) ∙ rw (added_none rate (position_after rate o) more (omega (arith, hand, fits, b)), add-zero) in
      (parts e).2 ∙ sym ((λ i. tree_count rate chaining (index i) (position i)) ∙ same (index_after chunk bytes) o (o + more) count)
    where
      same : (q o m : ℕ) → open_count rate m ≡ open_count rate o → tree_count rate chaining q m ≡ tree_count rate chaining q o
      same zero o m e = e
      same (suc k) o m e = rw e

pub place-position : (p : Progress) (from : Place) → from ≡ place_of p → from.position ≤ 8192
place-position p from e = rw (e, ← chunk_is) (position-le chunk chunk_pos (p.absorbed + p.customized))
