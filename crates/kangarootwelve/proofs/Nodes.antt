-- What the functions over lent lanes ask: the sponge's calls in a row, a chunk's end, the positions within their bounds, and the close.
-- Assumes nothing.
use mathlib.Core.Path.{◌≡◌, refl, sym, ap, ◌∙◌, subst}
use mathlib.Core.List.{List, ◌++◌}
use Prim.Native.Nat.{ℕ, zero, suc, ◌+◌, ◌-◌, ◌≤◌, ◌<◌, zero-le}
use native.Mathlib.Nat.{mod-lt, mod-eq_of_lt, le_refl, sub-zero, zero-add}
use native.Mathlib.Numerals.{add-one}
use native.Mathlib.Decide.{ℕ_discrete}
use native.Mathlib.Omega.{arith}
use borrow.Author.Tests.{eq-eqb, ne_eqb}
use lib.ListN.{length, take, drop, replicate}
use lib.Seq.{length-take-le}
use Rattle.keccak.specs.Permutation.{permuted}
use Rattle.sponge.specs.Published.{xor_byte}
use Rattle.sponge.specs.Waiting.{At, ready, position_after}
use Rattle.sponge.specs.Model.{Sponge, fresh, absorb_bytes, pad, squeeze_bytes, Outcome, absorb_call, pad_call, squeeze_output}
use Rattle.sponge.proofs.Waiting.{steps-append, steps_part}
use Rattle.sponge.proofs.Position.{steps-position}
use Rattle.sponge.proofs.Valid.{fits-valid, absorb_done, pad_done, output_done, zero_lanes_lem, pad-position}
use Rattle.turboshake.specs.Published.{turboshake_rounds}
use Rattle.kangarootwelve.specs.Published.{chunk, marker, trailer, length_encode, intermediate_domain, single_domain, final_domain}
use Rattle.kangarootwelve.specs.Tree.{Tree, put_to, put_byte, ending, end_chunk, absorb_tree, close_to}
use Rattle.kangarootwelve.specs.Inside.{Fits}
use Rattle.kangarootwelve.proofs.Published.{chunk_pos, puts_is, close-position}

-- 25 zeros at the first byte of a block
pub fresh_is : record { value = replicate 25 0; position = 0 } ≡ fresh
fresh_is = ap (λ (l : List ℕ). record { value = l; position = 0 }) (sym zero_lanes_lem)

-- the part of 64 bytes that a chaining value of n bytes gets
pub value-length : (n : ℕ) → n ≤ 64 → length {A = ℕ} (take (n - 0) (replicate 64 0)) ≡ n
value-length n h = rw sub-zero (length-take-le n (replicate 64 0) h)

module _ (rate : ℕ) (pos : 0 < rate) where
  position_is : (n : ℕ) → n ≤ rate → n ≡ position_after rate n
  position_is zero h = refl
  position_is (suc n) h = ap suc (sym (mod-eq_of_lt h))

  pub position-le : (n : ℕ) → position_after rate n ≤ rate
  position-le zero = zero-le
  position-le (suc n) = mod-lt n pos

  -- absorbing leaves the position within the block
  pub absorb_in : (s : Sponge) (p : List ℕ) → s.position ≤ rate → (absorb_bytes permuted rate s p).position ≤ rate
  absorb_in s p h = rw (steps-position permuted xor_byte rate pos s.position s p (position_is s.position h)) (position-le (s.position + length p))

  -- ---- the positions of a tree stay within their bounds

  module _ (chaining : ℕ) where
    pub end_fits : (t : At Tree) → Fits rate t → Fits rate (record { value = end_chunk rate chaining t.value; position = 0 })
    end_fits t h = record { final-fits = absorb_in t.value.final (ending rate chaining t.value.index t.value.leaf) h.final-fits; leaf-fits = zero-le; position-fits = zero-le }

    -- what is known of the place of the next byte
    pub record Next (t u : At Tree) : Type 0 where
      pub fits : Fits rate u
      pub inside : u.position < chunk
      pub counted : u.value.index ≤ suc t.value.index

    pub next_fits : (t : At Tree) → Fits rate t → Next t (ready (end_chunk rate chaining) chunk t)
    next_fits t h = by (ℕ_discrete t.position chunk)
      where
        by : Dec (t.position ≡ chunk) → Next t (ready (end_chunk rate chaining) chunk t)
        by (yes e) = rw (eq-eqb t.position chunk e) record { fits = end_fits t h; inside = chunk_pos; counted = le_refl _ }
        by (no ne) = rw (ne_eqb t.position chunk ne) record { fits = h; inside = omega (arith, h.position-fits, ne); counted = omega arith }

    pub next_of : (t u : At Tree) → u ≡ ready (end_chunk rate chaining) chunk t → Fits rate t → Next t u
    next_of t u e h = subst (Next t) (sym e) (next_fits t h)

  put-fits : (t : At Tree) (p : List ℕ) → Fits rate t → t.position + length p ≤ chunk
      → Fits rate (record { value = put_to rate t.value.index t.value.final t.value.leaf p; position = t.position + length p })
  put-fits t p h g = by t.value.index t.value.final t.value.leaf h.final-fits h.leaf-fits
    where
      by : (i : ℕ) (f l : Sponge) → f.position ≤ rate → l.position ≤ rate → Fits rate (record { value = put_to rate i f l p; position = t.position + length p })
      by zero f l a b = record { final-fits = absorb_in f p a; leaf-fits = b; position-fits = g }
      by (suc i) f l a b = record { final-fits = a; leaf-fits = absorb_in l p b; position-fits = g }

  -- the part that the loop takes off has k bytes
  pub part_is : (u : At Tree) (p m : List ℕ) (k : ℕ) → m ≡ take k p → k ≤ length p
      → ◌≡◌ {A = At Tree} (record { value = put_to rate u.value.index u.value.final u.value.leaf m; position = u.position + length m })
      (record { value = put_to rate u.value.index u.value.final u.value.leaf (take k p); position = u.position + k })
  part_is u p m k e h = rw (e, length-take-le k p h)

  pub part_fits : (u : At Tree) (p : List ℕ) (k : ℕ) → Fits rate u → u.position + k ≤ chunk → k ≤ length p
      → Fits rate (record { value = put_to rate u.value.index u.value.final u.value.leaf (take k p); position = u.position + k })
  part_fits u p k h g l =
      let n : length (take k p) ≡ k = length-take-le k p l in
      subst (λ (j : ℕ). Fits rate (record { value = put_to rate u.value.index u.value.final u.value.leaf (take k p); position = u.position + j })) n
      (put-fits u (take k p) h (omega arith))

  -- ---- the loop over the chunks: u is the place of the next byte, and the first k bytes of p lie in the chunk

  pub tree_part : (chaining : ℕ) (t u v : At Tree) → u ≡ ready (end_chunk rate chaining) chunk t → u.position < chunk → (p : List ℕ) (k : ℕ)
      → v ≡ record { value = put_to rate u.value.index u.value.final u.value.leaf (take k p); position = u.position + k }
      → 0 < length p → u.position + k ≤ chunk → k ≤ length p → absorb_tree rate chaining v (drop k p) ≡ absorb_tree rate chaining t p
  tree_part chaining t u v e h p k w hi hk hl =
      ap (λ (x : At Tree). absorb_tree rate chaining x (drop k p)) w
      ∙ ap (λ (x : Tree). absorb_tree rate chaining (record { value = x; position = u.position + k }) (drop k p)) (sym (puts_is rate chaining u.value u.position (take k p)))
      ∙ rw zero-add at (steps_part (end_chunk rate chaining) (put_byte rate) chunk t u e h p 0 k hi hk (omega (arith, hl)))

  -- ---- the sponge's calls; o, q and r are what they leave

  module _ (most : rate ≤ 200) where
    pub absorbed_is : (s : Sponge) (p : List ℕ) (o : Outcome) → s.position ≤ rate → o ≡ absorb_call turboshake_rounds rate s p → o.state ≡ absorb_bytes permuted rate s p
    absorbed_is s p o h e = ap (λ (u : Outcome). u.state) (e ∙ absorb_done turboshake_rounds rate s (fits-valid turboshake_rounds rate s.position refl h pos most) p)

    pub padded_is : (s : Sponge) (d : ℕ) (o : Outcome) → s.position ≤ rate → o ≡ pad_call turboshake_rounds rate s d → o.state ≡ pad permuted rate s d
    padded_is s d o h e = ap (λ (u : Outcome). u.state) (e ∙ pad_done turboshake_rounds rate s (fits-valid turboshake_rounds rate s.position refl h pos most) d)

    pub squeezed_is : (s : Sponge) (d : ℕ) (o : Outcome) (v r : List ℕ) → s.position ≤ rate → o ≡ pad_call turboshake_rounds rate s d → r ≡ squeeze_output turboshake_rounds rate o.state v
        → r ≡ squeeze_bytes permuted rate (length v) (pad permuted rate s d)
    squeezed_is s d o v r h e f =
        let p : o.state ≡ pad permuted rate s d = padded_is s d o h e in
        let z : o.state.position ≤ rate = rw (p, pad-position permuted rate s d) zero-le in
        f ∙ output_done turboshake_rounds rate o.state (fits-valid turboshake_rounds rate o.state.position refl z pos most) v ∙ ap (squeeze_bytes permuted rate (length v)) p

    -- the leaf is padded and squeezed into r, and r is absorbed
    pub value_row : (leaf node : Sponge) (d : ℕ) (v r : List ℕ) (o q : Outcome) → leaf.position ≤ rate → node.position ≤ rate
        → o ≡ pad_call turboshake_rounds rate leaf d → r ≡ squeeze_output turboshake_rounds rate o.state v → q ≡ absorb_call turboshake_rounds rate node r
        → q.state ≡ absorb_bytes permuted rate node (squeeze_bytes permuted rate (length v) (pad permuted rate leaf d))
    value_row leaf node d v r o q h g pads squeezes absorbs =
        absorbed_is node r q g absorbs ∙ ap (absorb_bytes permuted rate node) (squeezed_is leaf d o v r h pads squeezes)

    -- ---- a part of a chunk

    pub first_row : (node leaf : Sponge) (i : ℕ) (p : List ℕ) (o : Outcome) → i ≡ 0 → node.position ≤ rate → o ≡ absorb_call turboshake_rounds rate node p
        → record { final = o.state; leaf = leaf; index = i } ≡ put_to rate i node leaf p
    first_row node leaf i p o z h e = rw (z, absorbed_is node p o h e)

    pub later_row : (node leaf : Sponge) (i : ℕ) (p : List ℕ) (o : Outcome) → (i ≡ 0 → ⊥) → leaf.position ≤ rate → o ≡ absorb_call turboshake_rounds rate leaf p
        → record { final = node; leaf = o.state; index = i } ≡ put_to rate i node leaf p
    later_row node leaf zero p o z h e = absurd (z refl)
    later_row node leaf (suc i) p o z h e = rw (absorbed_is leaf p o h e)

    -- ---- a chunk's end

    module _ (chaining : ℕ) where
      pub marked_row : (node leaf : Sponge) (i : ℕ) (o : Outcome) → i ≡ 0 → node.position ≤ rate → o ≡ absorb_call turboshake_rounds rate node marker
          → record { final = o.state; leaf = record { value = replicate 25 0; position = 0 }; index = 1 } ≡ end_chunk rate chaining (record { final = node; leaf = leaf; index = i })
      marked_row node leaf i o z h e = rw (z, absorbed_is node marker o h e, fresh_is)

      pub valued_row : (node leaf s : Sponge) (i : ℕ) (v : List ℕ) → (i ≡ 0 → ⊥) → length v ≡ chaining
          → s ≡ absorb_bytes permuted rate node (squeeze_bytes permuted rate (length v) (pad permuted rate leaf intermediate_domain))
          → record { final = s; leaf = record { value = replicate 25 0; position = 0 }; index = i + 1 } ≡ end_chunk rate chaining (record { final = node; leaf = leaf; index = i })
      valued_row node leaf s zero v h l e = absurd (h refl)
      valued_row node leaf s (suc k) v h l e = rw (e, l, fresh_is, add-one)

      -- ---- the close

      pub single_row : (node leaf : Sponge) (i : ℕ) (o : Outcome) → i ≡ 0 → node.position ≤ rate → o ≡ pad_call turboshake_rounds rate node single_domain → o.state ≡ close_to rate chaining i node leaf
      single_row node leaf i o z h e = padded_is node single_domain o h e ∙ rw z

      -- s is the final node after the last chaining value; the count of leaves, the trailer and the padding follow
      pub final_row : (node leaf s : Sponge) (i : ℕ) (v : List ℕ) (count : List ℕ) (o p q : Outcome) → (i ≡ 0 → ⊥) → node.position ≤ rate → length v ≡ chaining
          → s ≡ absorb_bytes permuted rate node (squeeze_bytes permuted rate (length v) (pad permuted rate leaf intermediate_domain)) → count ≡ length_encode i
          → o ≡ absorb_call turboshake_rounds rate s count → p ≡ absorb_call turboshake_rounds rate o.state trailer → q ≡ pad_call turboshake_rounds rate p.state final_domain
          → q.state ≡ close_to rate chaining i node leaf
      final_row node leaf s zero v count o p q h g l e n counts ends pads = absurd (h refl)
      final_row node leaf s (suc k) v count o p q h g l e n counts ends pads =
          let value : List ℕ = squeeze_bytes permuted rate chaining (pad permuted rate leaf intermediate_domain) in
          let s-is : s ≡ absorb_bytes permuted rate node value = e ∙ rw l in
          let s-in : s.position ≤ rate = rw s-is (absorb_in node value g) in
          let o_is : o.state ≡ absorb_bytes permuted rate s count = absorbed_is s count o s-in counts in
          let o-in : o.state.position ≤ rate = rw o_is (absorb_in s count s-in) in
          let p-is : p.state ≡ absorb_bytes permuted rate o.state trailer = absorbed_is o.state trailer p o-in ends in
          let p-in : p.state.position ≤ rate = rw p-is (absorb_in o.state trailer o-in) in
          let whole : p.state ≡ absorb_bytes permuted rate node (value ++ length_encode (suc k) ++ trailer) =
          p-is ∙ rw (o_is, s-is, n) (sym (steps-append permuted xor_byte rate node (value ++ length_encode (suc k)) trailer ∙ rw (steps-append permuted xor_byte rate node value (length_encode (suc k))))) in
          padded_is p.state final_domain q p-in pads ∙ ap (λ (u : Sponge). pad permuted rate u final_domain) whole

      pub closed : (s node leaf : Sponge) (i : ℕ) → s ≡ close_to rate chaining i node leaf → record { value = s.value; position = 0 } ≡ close_to rate chaining i node leaf
      closed s node leaf i e =
          let zero-at : s.position ≡ 0 = ap (λ (u : Sponge). u.position) e ∙ close-position rate chaining i node leaf in
          ap (λ (n : ℕ). record { value = s.value; position = n }) (sym zero-at) ∙ e
