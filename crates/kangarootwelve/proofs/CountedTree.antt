-- The tree whose nodes count their permutations is the tree, and its two numbers together are the one of `Numbered`.
-- Assumes nothing.
use mathlib.Core.Path.{◌≡◌, refl, sym, ap, ◌∙◌}
use mathlib.Core.List.{List, [], ◌∷◌, ◌++◌}
use Prim.Native.Nat.{ℕ, zero, suc, ◌+◌}
use native.Mathlib.Nat.{add-zero, add_assoc}
use native.Mathlib.Omega.{arith}
use lib.ListN.{length}
use Rattle.keccak.specs.Permutation.{permuted}
use Rattle.sponge.specs.Published.{xor_byte, zero_lanes}
use Rattle.sponge.specs.Waiting.{At, position_after}
use Rattle.sponge.specs.Model.{Sponge, fresh, absorb_bytes, pad, squeeze_bytes, after_bytes}
use Rattle.sponge.specs.Count.{Counted, counted, counted_from, sponge_of}
use Rattle.sponge.proofs.Valid.{pad-position}
use Rattle.sponge.proofs.Count.{added, pad_added, steps-counted, pad-counted, after-counted}
use Rattle.kangarootwelve.specs.Published.{length_encode, chunk, trailer, single_domain, intermediate_domain, final_domain}
use Rattle.kangarootwelve.specs.Tree.{Tree, absorb_node, pad_node, put_to_of, put_byte_of, ending_of, squeezed_leaf, end_chunk_of, absorb_tree_of, close_to_of, put_to, ending, end_chunk}
use Rattle.kangarootwelve.specs.Count.{lanes_counted, CountedTree, permutations_of, count_absorbed, count_finished, count_finalized}
use Rattle.kangarootwelve.specs.Model.{Nodes, tree_at, counted_tree_at}
use Rattle.kangarootwelve.proofs.Numbered.{at_map, steps_map, put_added, leaf_added, end_added, close_added, numbered_put, numbered_end, number_tree, number_close, number_finish, number_finalize}

-- ---- the tree and the number

abbrev tree_of : CountedTree → Tree
tree_of t = record { final = sponge_of t.final; leaf = sponge_of t.leaf; index = t.index }

abbrev pub tree_and_count : CountedTree → Tree × ℕ
tree_and_count t = (tree_of t, permutations_of t)

-- a node's bytes and its padding
module _ (rate : ℕ) where
  absorbed : (s : Counted) (p : List ℕ) → absorb_node lanes_counted rate s p ≡ counted_from (absorb_bytes permuted rate (sponge_of s) p) (s.value.1 + added rate s.position (length p))
  absorbed s p = steps-counted permuted xor_byte rate (sponge_of s) s.value.1 p

  padded : (s : Counted) (d : ℕ) → pad_node lanes_counted rate s d ≡ counted_from (pad permuted rate (sponge_of s) d) (s.value.1 + pad_added rate s.position)
  padded s d = pad-counted permuted xor_byte rate (sponge_of s) s.value.1 d

  both_put : (k : ℕ) (f l : Counted) (p : List ℕ)
      → tree_and_count (put_to_of lanes_counted rate k f l p) ≡ (put_to rate k (sponge_of f) (sponge_of l) p, f.value.1 + l.value.1 + put_added rate k (sponge_of f) (sponge_of l) (length p))
  both_put zero f l p =
      let n : f.value.1 + added rate f.position (length p) + l.value.1 ≡ f.value.1 + l.value.1 + added rate f.position (length p) = omega arith in
      ap (λ (s : Counted). tree_and_count (record { final = s; leaf = l; index = 0 })) (absorbed f p) ∙ ap (λ (m : ℕ). (put_to rate 0 (sponge_of f) (sponge_of l) p, m)) n
  both_put (suc k) f l p =
      let n : f.value.1 + (l.value.1 + added rate l.position (length p)) ≡ f.value.1 + l.value.1 + added rate l.position (length p) = omega arith in
      ap (λ (s : Counted). tree_and_count (record { final = f; leaf = s; index = suc k })) (absorbed l p) ∙ ap (λ (m : ℕ). (put_to rate (suc k) (sponge_of f) (sponge_of l) p, m)) n

module _ (rate chaining : ℕ) where
  -- a chunk's end: the bytes that the final node gets, and what the leaf adds
  ending_is : (k : ℕ) (l : Counted) → ending_of lanes_counted rate chaining k l ≡ ending rate chaining k (sponge_of l)
  ending_is zero l = refl
  ending_is (suc k) l = ap (λ (s : Counted). squeeze_bytes permuted rate chaining (sponge_of s)) (padded rate l intermediate_domain)

  leaf_added_lem : (k : ℕ) (l : Counted) → (squeezed_leaf lanes_counted rate chaining k l).value.1 ≡ l.value.1 + leaf_added rate chaining k (sponge_of l)
  leaf_added_lem zero l = sym (add-zero l.value.1)
  leaf_added_lem (suc k) l =
      let s : Sponge = pad permuted rate (sponge_of l) intermediate_domain in
      let m : ℕ = l.value.1 + pad_added rate l.position in
      ap (λ (u : Counted). (after_bytes (counted permuted) rate chaining u).value.1) (padded rate l intermediate_domain)
      ∙ ap (λ (u : Counted). u.value.1) (after-counted permuted rate chaining s m)
      ∙ ap (λ (j : ℕ). m + added rate j chaining) (pad-position permuted rate (sponge_of l) intermediate_domain)
      ∙ add_assoc l.value.1 (pad_added rate l.position) (added rate 0 chaining)

  both_end : (t : CountedTree) → tree_and_count (end_chunk_of lanes_counted rate chaining t) ≡ numbered_end rate chaining (tree_and_count t)
  both_end t =
      let f : Counted = t.final in
      let e : List ℕ = ending_of lanes_counted rate chaining t.index t.leaf in
      let m : ℕ = (squeezed_leaf lanes_counted rate chaining t.index t.leaf).value.1 in
      let l : List ℕ = ending rate chaining t.index (sponge_of t.leaf) in
      let n : f.value.1 + added rate f.position (length l) + m ≡ permutations_of t + end_added rate chaining t.index (sponge_of f) (sponge_of t.leaf) = omega (arith, leaf_added_lem t.index t.leaf) in
      ap (λ (s : Counted). tree_and_count (record { final = s; leaf = record { value = (zero_lanes, m); position = 0 }; index = suc t.index })) (absorbed rate f e)
      ∙ ap (λ (b : List ℕ). (record { final = absorb_bytes permuted rate (sponge_of f) b; leaf = fresh; index = suc t.index }, f.value.1 + added rate f.position (length b) + m)) (ending_is t.index t.leaf)
      ∙ ap (λ (k : ℕ). (end_chunk rate chaining (tree_of t), k)) n

  -- along every byte of S
  pub both_absorbed : (t : At CountedTree) (p : List ℕ) → at_map tree_and_count (absorb_tree_of lanes_counted rate chaining t p) ≡ number_tree rate chaining (at_map tree_and_count t) p
  both_absorbed t p =
      steps_map tree_and_count (end_chunk_of lanes_counted rate chaining) (put_byte_of lanes_counted rate) (numbered_end rate chaining) (numbered_put rate chaining)
      both_end (λ u i b. both_put rate u.index u.final u.leaf (b ∷ [])) chunk t p

  -- the close
  closed_number : (k : ℕ) (f l : Counted)
      → (close_to_of lanes_counted rate chaining k f l).value.1 + (squeezed_leaf lanes_counted rate chaining k l).value.1 ≡ f.value.1 + l.value.1 + close_added rate chaining k (sponge_of f) (sponge_of l)
  closed_number zero f l = let e = ap (λ (u : Counted). u.value.1) (padded rate f single_domain) in omega (arith, e)
  closed_number (suc k) f l =
      let e : List ℕ = ending_of lanes_counted rate chaining (suc k) l ++ length_encode (suc k) ++ trailer in
      let b : List ℕ = ending rate chaining (suc k) (sponge_of l) ++ length_encode (suc k) ++ trailer in
      let n : (close_to_of lanes_counted rate chaining (suc k) f l).value.1
      ≡ f.value.1 + added rate f.position (length b) + pad_added rate (absorb_bytes permuted rate (sponge_of f) b).position =
      ap (λ (u : Counted). (pad_node lanes_counted rate u final_domain).value.1) (absorbed rate f e)
      ∙ ap (λ (u : Counted). u.value.1) (padded rate (counted_from (absorb_bytes permuted rate (sponge_of f) e) (f.value.1 + added rate f.position (length e))) final_domain)
      ∙ ap (λ (x : List ℕ). f.value.1 + added rate f.position (length (x ++ length_encode (suc k) ++ trailer)) + pad_added rate (absorb_bytes permuted rate (sponge_of f) (x ++ length_encode (suc k) ++ trailer)).position) (ending_is (suc k) l) in
      omega (arith, n, leaf_added_lem (suc k) l)

  -- ---- so for the numbers of the machine

  pub absorbed_number : (t : At CountedTree) (p : List ℕ) → count_absorbed rate chaining t p ≡ (number_tree rate chaining (at_map tree_and_count t) p).value.1
  absorbed_number t p = ap (λ (u : At (Tree × ℕ)). u.value.1) (both_absorbed t p)

  pub finished_number : (t : At CountedTree) (n : ℕ) → count_finished rate chaining t n ≡ number_finish rate chaining (at_map tree_and_count t) n
  finished_number t n =
      let u : CountedTree = (absorb_tree_of lanes_counted rate chaining t (length_encode n)).value in
      closed_number u.index u.final u.leaf ∙ ap (λ (x : At (Tree × ℕ)). number_close rate chaining x.value) (both_absorbed t (length_encode n))

  pub finalized_number : (t : At CountedTree) (c : List ℕ) → count_finalized rate chaining t c ≡ number_finalize rate chaining (at_map tree_and_count t) c
  finalized_number t c =
      finished_number (absorb_tree_of lanes_counted rate chaining t c) (length c) ∙ ap (λ (x : At (Tree × ℕ)). number_finish rate chaining x (length c)) (both_absorbed t c)

-- ---- of a run, whose one number is the sum of the two

abbrev pub number_at : ℕ → Nodes → At (Tree × ℕ)
number_at n s = record { value = ((tree_at n s).value, s.permutations); position = position_after chunk n }

sum_is_number : (n : ℕ) (s : Nodes) → at_map tree_and_count (counted_tree_at n s) ≡ number_at n s
sum_is_number n s = ap (λ (m : ℕ). record { value = ((tree_at n s).value, m); position = position_after chunk n }) (add-zero s.permutations)

module _ (rate chaining : ℕ) where
  pub run-absorbed : (n : ℕ) (s : Nodes) (p : List ℕ) → count_absorbed rate chaining (counted_tree_at n s) p ≡ (number_tree rate chaining (number_at n s) p).value.1
  run-absorbed n s p = absorbed_number rate chaining (counted_tree_at n s) p ∙ ap (λ (t : At (Tree × ℕ)). (number_tree rate chaining t p).value.1) (sum_is_number n s)

  pub run-finished : (n : ℕ) (s : Nodes) (m : ℕ) → count_finished rate chaining (counted_tree_at n s) m ≡ number_finish rate chaining (number_at n s) m
  run-finished n s m = finished_number rate chaining (counted_tree_at n s) m ∙ ap (λ (t : At (Tree × ℕ)). number_finish rate chaining t m) (sum_is_number n s)

  pub run_finalized : (n : ℕ) (s : Nodes) (c : List ℕ) → count_finalized rate chaining (counted_tree_at n s) c ≡ number_finalize rate chaining (number_at n s) c
  run_finalized n s c = finalized_number rate chaining (counted_tree_at n s) c ∙ ap (λ (t : At (Tree × ℕ)). number_finalize rate chaining t c) (sum_is_number n s)

  pub run-squeezed : (k : ℕ) (s : Nodes) → (after_bytes (counted permuted) rate k (counted_from s.final s.permutations)).value.1 ≡ s.permutations + added rate s.final.position k
  run-squeezed k s = ap (λ (t : Counted). t.value.1) (after-counted permuted rate k s.final s.permutations)
