-- A tree and the number of its permutations: along every byte of S the number is what the totals tell, and so after the close.
-- Assumes nothing.
use mathlib.Core.Path.{◌≡◌, refl, ap, ◌∙◌}
use mathlib.Core.List.{List, [], ◌∷◌, ◌++◌}
use mathlib.Core.Bool.{Bool, true, false}
use Prim.Native.Nat.{ℕ, zero, suc, ◌+◌, ◌*◌, ◌<◌}
use native.Mathlib.Nat.{add-zero, zero-add, suc-mul, zero-mul}
use native.Mathlib.Numerals.{add-one}
use native.Mathlib.Omega.{arith}
use lib.ListN.{length, length-append}
use lib.Dec.{eqb}
use Rattle.keccak.specs.Permutation.{permuted}
use Rattle.sponge.specs.Published.{xor_byte}
use Rattle.sponge.specs.Waiting.{At, step, steps, position_after, index_after}
use Rattle.sponge.specs.Model.{Sponge, absorb_bytes, pad, squeeze_bytes}
use Rattle.sponge.specs.Count.{counted_from, open_count, closed_count}
use Rattle.sponge.proofs.Position.{After, after-steps, steps-position}
use Rattle.sponge.proofs.Published.{length-squeeze}
use Rattle.sponge.proofs.Count.{added, pad_added, added-index, pad_count, squeeze_count}
use Rattle.kangarootwelve.specs.Published.{length_encode, chunk, marker, trailer, intermediate_domain}
use Rattle.kangarootwelve.specs.Tree.{Tree, put_byte, ending, end_chunk, absorb_tree}
use Rattle.kangarootwelve.specs.Count.{node_length, tree_count, closed_tree, closed_kt}
use Rattle.kangarootwelve.specs.Model.{final_count, leaf_count}
use Rattle.kangarootwelve.proofs.Published.{chunk_pos}

-- ---- what is added, by the positions of the two nodes

-- by n bytes of chunk k
abbrev pub put_added : ℕ → ℕ → Sponge → Sponge → ℕ → ℕ
put_added rate zero final leaf n = added rate final.position n
put_added rate (suc k) final leaf n = added rate leaf.position n

-- by a leaf's close and its chaining value
abbrev pub leaf_added : ℕ → ℕ → ℕ → Sponge → ℕ
leaf_added rate chaining zero leaf = 0
leaf_added rate chaining (suc k) leaf = pad_added rate leaf.position + added rate 0 chaining

-- by the end of a full chunk k of which another follows: the leaf, and the marker or the chaining value in the final node
abbrev pub end_added : ℕ → ℕ → ℕ → Sponge → Sponge → ℕ
end_added rate chaining k final leaf = leaf_added rate chaining k leaf + added rate final.position (length (ending rate chaining k leaf))

-- by the close, with chunk k in hand: the padding finds the final node where its last byte left it
abbrev pub close_added : ℕ → ℕ → ℕ → Sponge → Sponge → ℕ
close_added rate chaining zero final leaf = pad_added rate final.position
close_added rate chaining (suc k) final leaf =
    leaf_added rate chaining (suc k) leaf + added rate final.position (length (ending rate chaining (suc k) leaf ++ length_encode (suc k) ++ trailer))
    + pad_added rate (absorb_bytes permuted rate final (ending rate chaining (suc k) leaf ++ length_encode (suc k) ++ trailer)).position

-- a tree and the number of its permutations
module _ (rate chaining : ℕ) where
  abbrev pub numbered_put : Tree × ℕ → ℕ → ℕ → Tree × ℕ
  numbered_put x i b = (put_byte rate x.0 i b, x.1 + put_added rate x.0.index x.0.final x.0.leaf 1)

  abbrev pub numbered_end : Tree × ℕ → Tree × ℕ
  numbered_end x = (end_chunk rate chaining x.0, x.1 + end_added rate chaining x.0.index x.0.final x.0.leaf)

  abbrev pub number_tree : At (Tree × ℕ) → List ℕ → At (Tree × ℕ)
  number_tree = steps numbered_end numbered_put chunk

  abbrev pub number_close : Tree × ℕ → ℕ
  number_close x = x.1 + close_added rate chaining x.0.index x.0.final x.0.leaf

  abbrev pub number_finish : At (Tree × ℕ) → ℕ → ℕ
  number_finish t n = number_close (number_tree t (length_encode n)).value

  abbrev pub number_finalize : At (Tree × ℕ) → List ℕ → ℕ
  number_finalize t c = number_finish (number_tree t c) (length c)

-- ---- a fold seen through a function of its value

abbrev pub at_map : {X Y : Type 0} → (X → Y) → At X → At Y
at_map f s = record { value = f s.value; position = s.position }

module _ {X Y : Type 0} (f : X → Y) (full : X → X) (put : X → ℕ → ℕ → X) (full' : Y → Y) (put' : Y → ℕ → ℕ → Y)
    (on-full : (x : X) → f (full x) ≡ full' (f x)) (on-put : (x : X) (i b : ℕ) → f (put x i b) ≡ put' (f x) i b) (r : ℕ) where
  step_map : (s : At X) (b : ℕ) → at_map f (step full put r s b) ≡ step full' put' r (at_map f s) b
  step_map s b = by (eqb s.position r) refl
    where
      by : (t : Bool) → eqb s.position r ≡ t → at_map f (step full put r s b) ≡ step full' put' r (at_map f s) b
      by true e = rw e (ap (λ (y : Y). record { value = y; position = 1 }) (on-put (full s.value) 0 b ∙ ap (λ (y : Y). put' y 0 b) (on-full s.value)))
      by false e = rw e (ap (λ (y : Y). record { value = y; position = suc s.position }) (on-put s.value s.position b))

  pub steps_map : (s : At X) (p : List ℕ) → at_map f (steps full put r s p) ≡ steps full' put' r (at_map f s) p
  steps_map s [] = refl
  steps_map s (b ∷ p) = steps_map (step full put r s b) p ∙ ap (λ (t : At Y). steps full' put' r t p) (step_map s b)

-- ---- the tree of a tree and a number

abbrev pub plain : At (Tree × ℕ) → At Tree
plain = at_map (λ (x : Tree × ℕ). x.0)

module _ (rate chaining : ℕ) where
  pub plain-tree : (t : At (Tree × ℕ)) (p : List ℕ) → plain (number_tree rate chaining t p) ≡ absorb_tree rate chaining (plain t) p
  plain-tree =
      steps_map (λ (x : Tree × ℕ). x.0) (numbered_end rate chaining) (numbered_put rate chaining) (end_chunk rate chaining) (put_byte rate) (λ x. refl) (λ x i b. refl) chunk

  pub numbered_tree : (t : At (Tree × ℕ)) (p : List ℕ) → number_tree rate chaining t p ≡ counted_from (absorb_tree rate chaining (plain t) p) (number_tree rate chaining t p).value.1
  numbered_tree t p = ap (λ (u : At Tree). counted_from u (number_tree rate chaining t p).value.1) (plain-tree t p)

module _ (rate chaining : ℕ) (pos : 0 < rate) where
  -- ---- the two positions are told by the chunk in hand and the position in it

  pub record Places (q o : ℕ) (t : Tree) : Type 0 where
    pub index_is : t.index ≡ q
    pub final_is : t.final.position ≡ position_after rate (final_count chaining q o)
    pub leaf_is : t.leaf.position ≡ position_after rate (leaf_count q o)

  absorb_to : (n m : ℕ) (s : Sponge) (p : List ℕ) → s.position ≡ position_after rate n → n + length p ≡ m → (absorb_bytes permuted rate s p).position ≡ position_after rate m
  absorb_to n m s p e w = steps-position permuted xor_byte rate pos n s p e ∙ ap (position_after rate) w

  places_put : (q o b : ℕ) (t : Tree) → Places q o t → Places q (suc o) (put_byte rate t o b)
  places_put zero o b t h = rw h.index_is record { index_is = refl; final_is = absorb_to o (suc o) t.final (b ∷ []) h.final_is (add-one o); leaf_is = h.leaf_is }
  places_put (suc k) o b t h = rw h.index_is record { index_is = refl; final_is = h.final_is; leaf_is = absorb_to o (suc o) t.leaf (b ∷ []) h.leaf_is (add-one o) }

  places_end : (q : ℕ) (t : Tree) → Places q chunk t → Places (suc q) 0 (end_chunk rate chaining t)
  unfolding marker
  places_end zero t h = rw h.index_is record { index_is = refl; final_is = absorb_to chunk (chunk + 8 + 0 * chaining) t.final marker h.final_is (omega arith); leaf_is = refl }
  places_end (suc k) t h = rw h.index_is record {
    index_is = refl;
    final_is =
        absorb_to (chunk + 8 + k * chaining) (chunk + 8 + suc k * chaining) t.final (squeeze_bytes permuted rate chaining (pad permuted rate t.leaf intermediate_domain)) h.final_is
        (omega (arith, length-squeeze permuted rate pos chaining (pad permuted rate t.leaf intermediate_domain)));
    leaf_is = refl;
  }

  -- ---- and so is the number

  -- the positions, and the number, are told by the chunk in hand and the position in it
  pub record Told (q o : ℕ) (x : Tree × ℕ) : Type 0 where
    pub places : Places q o x.0
    pub count_is : x.1 ≡ tree_count rate chaining q o

  -- one more byte in a sponge, and n of them
  one_more : (o : ℕ) (s : Sponge) → s.position ≡ position_after rate o → open_count rate o + added rate s.position 1 ≡ open_count rate (suc o)
  one_more o s e = rw e (added-index rate pos o 1 ∙ ap (open_count rate) (add-one o))

  more : (o n : ℕ) (s : Sponge) → s.position ≡ position_after rate o → open_count rate o + added rate s.position n ≡ open_count rate (o + n)
  more o n s e = rw e (added-index rate pos o n)

  -- a leaf of o bytes, closed, and its chaining value
  leaf_closed : (o : ℕ) (s : Sponge) → s.position ≡ position_after rate o → open_count rate o + (pad_added rate s.position + added rate 0 chaining) ≡ closed_count rate o chaining
  leaf_closed o s e =
      let a : open_count rate o + pad_added rate s.position ≡ closed_count rate o 0 = rw e (pad_count rate pos o) in
      let b : closed_count rate o 0 + added rate 0 chaining ≡ closed_count rate o chaining = squeeze_count rate pos o 0 chaining ∙ ap (closed_count rate o) (zero-add chaining) in
      omega arith

  -- a chaining value has its length
  value-length : (s : Sponge) → length (squeeze_bytes permuted rate chaining (pad permuted rate s intermediate_domain)) ≡ chaining
  value-length s = length-squeeze permuted rate pos chaining (pad permuted rate s intermediate_domain)

  told-put : (q o b : ℕ) (x : Tree × ℕ) → Told q o x → Told q (suc o) (numbered_put rate chaining x o b)
  told-put zero o b x h = record {
    places = places_put zero o b x.0 h.places;
    count_is = rw (h.places.index_is, h.count_is) (one_more o x.0.final h.places.final_is);
  }
  told-put (suc k) o b x h = record {
    places = places_put (suc k) o b x.0 h.places;
    count_is =
        let e = one_more o x.0.leaf h.places.leaf_is in
        rw (h.places.index_is, h.count_is) (omega arith);
  }

  told-end : (q : ℕ) (x : Tree × ℕ) → Told q chunk x → Told (suc q) 0 (numbered_end rate chaining x)
  unfolding marker
  told-end zero x h = record {
    places = places_end zero x.0 h.places;
    count_is =
        let e = more chunk 8 x.0.final h.places.final_is in
        rw (h.places.index_is, h.count_is, zero-mul, zero-mul, add-zero, add-zero, add-zero, zero-add) e;
  }
  told-end (suc k) x h = record {
    places = places_end (suc k) x.0 h.places;
    count_is =
        let e = more (chunk + 8 + k * chaining) chaining x.0.final h.places.final_is in
        let f = leaf_closed chunk x.0.leaf h.places.leaf_is in
        let g : chunk + 8 + k * chaining + chaining ≡ chunk + 8 + suc k * chaining = rw suc-mul (omega arith) in
        let e' = rw g at e in
        rw (h.places.index_is, h.count_is, suc-mul k (closed_count rate chunk chaining), value-length x.0.leaf) (omega arith);
  }

  -- along every byte of S
  pub numbered_told : (n : ℕ) (t : At (Tree × ℕ)) (p : List ℕ) → After chunk Told n t → After chunk Told (n + length p) (number_tree rate chaining t p)
  numbered_told n t p = after-steps (numbered_end rate chaining) (numbered_put rate chaining) chunk chunk_pos Told told-put told-end n t p

  -- the close, of a single node and of a tree
  single_closed : (o : ℕ) (x : Tree × ℕ) → Told 0 o x → x.1 + pad_added rate x.0.final.position ≡ closed_tree rate chaining 0 o 0
  single_closed o x h = rw (h.count_is, h.places.final_is) (pad_count rate pos o)

  -- the chaining value, the number of chunks and the trailer, n bytes, go into the final node, and its padding finds it at p
  node_closed : (k o n p : ℕ) (x : Tree × ℕ) → Told (suc k) o x → n ≡ chaining + length (length_encode (suc k)) + 2 → p ≡ position_after rate (node_length rate chaining (suc k))
      → x.1 + (leaf_added rate chaining (suc k) x.0.leaf + added rate x.0.final.position n + pad_added rate p) ≡ closed_tree rate chaining (suc k) o 0
  node_closed k o n p x h v w =
      let e = more (chunk + 8 + k * chaining) n x.0.final h.places.final_is in
      let f = leaf_closed o x.0.leaf h.places.leaf_is in
      let g : chunk + 8 + k * chaining + n ≡ node_length rate chaining (suc k) = rw (v, suc-mul) (omega arith) in
      let e' = rw g at e in
      let i : open_count rate (node_length rate chaining (suc k)) + pad_added rate p ≡ closed_count rate (node_length rate chaining (suc k)) 0 = rw w (pad_count rate pos (node_length rate chaining (suc k))) in
      rw h.count_is (omega arith)

  end-length : (k : ℕ) (s : Sponge) → length (ending rate chaining (suc k) s ++ length_encode (suc k) ++ trailer) ≡ chaining + length (length_encode (suc k)) + 2
  unfolding trailer
  end-length k s = simp length-append (omega (arith, value-length s))

  node_end : (k o : ℕ) (t : Tree) → Places (suc k) o t
      → (absorb_bytes permuted rate t.final (ending rate chaining (suc k) t.leaf ++ length_encode (suc k) ++ trailer)).position ≡ position_after rate (node_length rate chaining (suc k))
  node_end k o t h =
      absorb_to (chunk + 8 + k * chaining) (node_length rate chaining (suc k)) t.final (ending rate chaining (suc k) t.leaf ++ length_encode (suc k) ++ trailer) h.final_is
      (rw (end-length k t.leaf, suc-mul) (omega arith))

  closed_told : (q o : ℕ) (x : Tree × ℕ) → Told q o x → number_close rate chaining x ≡ closed_tree rate chaining q o 0
  closed_told zero o x h = rw h.places.index_is (single_closed o x h)
  closed_told (suc k) o x h = rw h.places.index_is (node_closed k o _ _ x h (end-length k x.0.leaf) (node_end k o x.0 h.places))

  -- C has k bytes
  pub finish-told : (n k : ℕ) (t : At (Tree × ℕ)) → After chunk Told n t → number_finish rate chaining t k ≡ closed_kt rate chaining n k 0
  unfolding closed_kt
  finish-told n k t h = closed_told _ _ _ (numbered_told n t (length_encode k) h).holds

  -- ---- k bytes squeezed after j

  tree-squeezed : (q o j k : ℕ) → closed_tree rate chaining q o j + added rate (position_after rate j) k ≡ closed_tree rate chaining q o (j + k)
  tree-squeezed zero o j k = squeeze_count rate pos o j k
  tree-squeezed (suc q) o j k = let e = squeeze_count rate pos (node_length rate chaining (suc q)) j k in omega arith

  pub squeezed-told : (n c j k : ℕ) → closed_kt rate chaining n c j + added rate (position_after rate j) k ≡ closed_kt rate chaining n c (j + k)
  unfolding closed_kt
  squeezed-told n c j k = tree-squeezed (index_after chunk (n + length (length_encode c))) (position_after chunk (n + length (length_encode c))) j k
