-- The permutations of the definition: what a call adds is told by the position, and what a run has had by its totals.
-- Assumes nothing.
use mathlib.Core.Path.{◌≡◌, refl, sym, ap, ◌∙◌}
use mathlib.Core.List.{List, [], ◌∷◌}
use mathlib.Core.Bool.{Bool, true, false, cond}
use Prim.Native.Nat.{ℕ, zero, suc, ◌+◌, ◌-◌, ◌*◌, ◌/◌, ◌%◌, ◌<◌, ◌≤◌}
use native.Mathlib.Nat.{add-zero, add-suc, suc-add, zero-add, zero-div, zero-mod, div-add-mod', mod-lt}
use native.Mathlib.Numerals.{add-one}
use native.Mathlib.Decide.{ℕ_discrete}
use native.Mathlib.Omega.{arith}
use lib.ListN.{length}
use lib.Dec.{eqb}
use lib.Arith.{digits_div}
use borrow.Author.Tests.{eq-eqb, ne_eqb}
use Rattle.sponge.specs.Cut.{ceil}
use Rattle.sponge.specs.Waiting.{At, step, steps, position_after, index_after}
use Rattle.sponge.specs.Model.{pad_with, after_byte, after_bytes}
use Rattle.sponge.specs.Count.{counted, uncounted, counted_from, open_count, closed_count, read_count}
use Rattle.sponge.proofs.Position.{carry, stay}

-- ---- what the counted definition counts

-- the permutations that n bytes add, absorbed or squeezed from position p on; and those that the padding adds
abbrev pub added : ℕ → ℕ → ℕ → ℕ
added r p zero = 0
added r p (suc n) = cond (eqb p r) (suc (added r 1 n)) (added r (suc p) n)

abbrev pub pad_added : ℕ → ℕ → ℕ
pad_added r p = suc (added r p 1)

module _ {X : Type 0} (full : X → X) (put : X → ℕ → ℕ → X) (r : ℕ) where
  pub steps-counted : (s : At X) (n : ℕ) (bs : List ℕ)
      → steps (counted full) (uncounted put) r (counted_from s n) bs ≡ counted_from (steps full put r s bs) (n + added r s.position (length bs))
  steps-counted s n [] = rw add-zero
  steps-counted s n (b ∷ bs) = by (eqb s.position r) refl (steps-counted (record { value = put (full s.value) 0 b; position = 1 }) (suc n) bs) (steps-counted (record { value = put s.value s.position b; position = suc s.position }) n bs)
    where
      Is : At X → ℕ → List ℕ → Type 0
      Is t k cs = steps (counted full) (uncounted put) r (counted_from t k) cs ≡ counted_from (steps full put r t cs) (k + added r t.position (length cs))

      by : (t : Bool) → eqb s.position r ≡ t → Is (record { value = put (full s.value) 0 b; position = 1 }) (suc n) bs
          → Is (record { value = put s.value s.position b; position = suc s.position }) n bs → Is s n (b ∷ bs)
      by true e f g =
          let q : step full put r s b ≡ record { value = put (full s.value) 0 b; position = 1 } = rw e in
          let c : step (counted full) (uncounted put) r (counted_from s n) b ≡ counted_from (record { value = put (full s.value) 0 b; position = 1 }) (suc n) = rw e in
          let h : suc n + added r 1 (length bs) ≡ n + added r s.position (suc (length bs)) = rw e (suc-add n (added r 1 (length bs)) ∙ sym (add-suc n (added r 1 (length bs)))) in
          ap (λ (t : At (X × ℕ)). steps (counted full) (uncounted put) r t bs) c ∙ f ∙ (λ i. counted_from (steps full put r (sym q i) bs) (h i))
      by false e f g =
          let q : step full put r s b ≡ record { value = put s.value s.position b; position = suc s.position } = rw e in
          let c : step (counted full) (uncounted put) r (counted_from s n) b ≡ counted_from (record { value = put s.value s.position b; position = suc s.position }) n = rw e in
          let h : n + added r (suc s.position) (length bs) ≡ n + added r s.position (suc (length bs)) = rw e in
          ap (λ (t : At (X × ℕ)). steps (counted full) (uncounted put) r t bs) c ∙ g ∙ (λ i. counted_from (steps full put r (sym q i) bs) (h i))

  -- wherever in the block 80 goes
  ended : (s : At X) (n d j : ℕ)
      → record { value = counted full (uncounted put (step (counted full) (uncounted put) r (counted_from s n) d).value j 0x80); position = 0 }
      ≡ counted_from (record { value = full (put (step full put r s d).value j 0x80); position = 0 }) (n + pad_added r s.position)
  ended s n d j =
      ap (λ (t : At (X × ℕ)). record { value = counted full (uncounted put t.value j 0x80); position = 0 }) (steps-counted s n (d ∷ []))
      ∙ ap (λ (k : ℕ). counted_from (record { value = full (put (step full put r s d).value j 0x80); position = 0 }) k) (sym (add-suc n (added r s.position 1)))

  pub pad-counted : (s : At X) (n d : ℕ) → pad_with (counted full) r (uncounted put) (counted_from s n) d ≡ counted_from (pad_with full r put s d) (n + pad_added r s.position)
  unfolding pad_with
  pad-counted s n d = ended s n d _

module _ {X : Type 0} (full : X → X) (r : ℕ) where
  pub after-counted : (k : ℕ) (s : At X) (n : ℕ) → after_bytes (counted full) r k (counted_from s n) ≡ counted_from (after_bytes full r k s) (n + added r s.position k)
  after-counted zero s n = rw add-zero
  after-counted (suc k) s n = by (eqb s.position r) refl (after-counted k (record { value = full s.value; position = 1 }) (suc n)) (after-counted k (record { value = s.value; position = suc s.position }) n)
    where
      Is : At X → ℕ → ℕ → Type 0
      Is t m j = after_bytes (counted full) r j (counted_from t m) ≡ counted_from (after_bytes full r j t) (m + added r t.position j)

      by : (t : Bool) → eqb s.position r ≡ t → Is (record { value = full s.value; position = 1 }) (suc n) k → Is (record { value = s.value; position = suc s.position }) n k → Is s n (suc k)
      by true e f g =
          let q : after_byte full r s ≡ record { value = full s.value; position = 1 } = rw e in
          let c : after_byte (counted full) r (counted_from s n) ≡ counted_from (record { value = full s.value; position = 1 }) (suc n) = rw e in
          let h : suc n + added r 1 k ≡ n + added r s.position (suc k) = rw e (suc-add n (added r 1 k) ∙ sym (add-suc n (added r 1 k))) in
          ap (after_bytes (counted full) r k) c ∙ f ∙ (λ i. counted_from (after_bytes full r k (sym q i)) (h i))
      by false e f g =
          let q : after_byte full r s ≡ record { value = s.value; position = suc s.position } = rw e in
          let c : after_byte (counted full) r (counted_from s n) ≡ counted_from (record { value = s.value; position = suc s.position }) n = rw e in
          let h : n + added r (suc s.position) k ≡ n + added r s.position (suc k) = rw e in
          ap (after_bytes (counted full) r k) c ∙ g ∙ (λ i. counted_from (after_bytes full r k (sym q i)) (h i))

  pub after_adds : (m n : ℕ) (s : At X) → after_bytes full r (m + n) s ≡ after_bytes full r n (after_bytes full r m s)
  after_adds zero n s = rw zero-add
  after_adds (suc m) n s = rw suc-add (after_adds m n (after_byte full r s))

-- within the block nothing is permuted
pub added_none : (r p k : ℕ) → p + k ≤ r → added r p k ≡ 0
added_none r p zero h = refl
added_none r p (suc k) h = rw (ne_eqb p r (omega arith)) (added_none r (suc p) k (omega arith))

-- ---- what the totals tell

module _ (r : ℕ) (pos : 0 < r) where
  -- k bytes after n
  pub added-index : (n k : ℕ) → index_after r n + added r (position_after r n) k ≡ index_after r (n + k)
  added-index n zero = rw (add-zero, add-zero)
  added-index zero (suc k) = rw (ne_eqb 0 r (omega arith)) (first ∙ added-index 1 k ∙ ap (index_after r) (suc-add 0 k ∙ sym (add-suc 0 k)))
    where
      first : 0 + added r 1 k ≡ index_after r 1 + added r (position_after r 1) k
      first = rw (zero-div, zero-mod)
  added-index (suc m) (suc k) = by (ℕ_discrete (suc (m % r)) r) (added-index (suc (suc m)) k ∙ ap (index_after r) (suc-add (suc m) k ∙ sym (add-suc (suc m) k)))
    where
      by : Dec (suc (m % r) ≡ r) → index_after r (suc (suc m)) + added r (position_after r (suc (suc m))) k ≡ index_after r (suc m + suc k)
          → index_after r (suc m) + added r (position_after r (suc m)) (suc k) ≡ index_after r (suc m + suc k)
      by (yes e) rest = rw (eq-eqb (suc (m % r)) r e, add-suc, ← suc-add) (rw ((carry m r pos e).0, (carry m r pos e).1) at rest)
      by (no ne) rest = rw (ne_eqb (suc (m % r)) r ne) (rw ((stay m r pos ne).0, (stay m r pos ne).1) at rest)

  -- k bytes after n, within the block
  pub position-none : (n k : ℕ) → position_after r n + k ≤ r → position_after r (n + k) ≡ position_after r n + k
  position-none n zero h = rw (add-zero, add-zero)
  position-none zero (suc k) h =
      let one : position_after r 1 ≡ 1 = rw zero-mod in
      ap (position_after r) (add-suc 0 k ∙ sym (suc-add 0 k)) ∙ position-none 1 k (rw one (omega (arith, h))) ∙ ap (λ (p : ℕ). p + k) one ∙ omega arith
  position-none (suc m) (suc k) h =
      let ne : (suc (m % r) ≡ r → ⊥) = λ e. omega (arith, h, e) in
      let next : position_after r (suc (suc m)) ≡ suc (suc (m % r)) = ap suc (stay m r pos ne).1 in
      ap (position_after r) (add-suc (suc m) k ∙ sym (suc-add (suc m) k)) ∙ position-none (suc (suc m)) k (rw next (omega (arith, h))) ∙ ap (λ (p : ℕ). p + k) next ∙ omega arith

  -- the padding after m bytes
  pub pad_count : (m : ℕ) → open_count r m + pad_added r (position_after r m) ≡ closed_count r m 0
  pad_count m =
      let e : index_after r m + added r (position_after r m) 1 ≡ m / r = added-index m 1 ∙ ap (index_after r) (add-one m) in
      add-suc (index_after r m) (added r (position_after r m) 1) ∙ ap suc e ∙ sym (add-zero (suc (m / r)))

  -- k bytes squeezed after j
  pub squeeze_count : (m j k : ℕ) → closed_count r m j + added r (position_after r j) k ≡ closed_count r m (j + k)
  squeeze_count m j k = let e = added-index j k in omega arith

  -- ---- in the request's words

  ceil-suc : (n : ℕ) → ceil r (suc n) ≡ suc (n / r)
  ceil-suc n =
      let w : suc n + (r - 1) ≡ suc (n / r) * r + n % r = omega (arith, div-add-mod' n r) in
      rw w (digits_div (suc (n / r)) (mod-lt n pos))

  pub open_words : (m : ℕ) → open_count r m ≡ read_count r m
  open_words zero = refl
  open_words (suc m) = rw (ceil-suc m) (omega arith)

  pub closed_words_lem : (m n : ℕ) → closed_count r m n ≡ ceil r (m + 1) + read_count r n
  closed_words_lem m n = rw (add-one m, ceil-suc m, ← open_words n)
