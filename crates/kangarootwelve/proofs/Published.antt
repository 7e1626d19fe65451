-- KT byte by byte over two sponges gives the published KT, for every rate above 0.
-- Assumes nothing.
use mathlib.Core.Path.{◌≡◌, refl, sym, ap, ◌∙◌}
use mathlib.Core.List.{List, [], ◌∷◌, ◌++◌, append-nil, append_assoc}
use Prim.Native.Nat.{ℕ, zero, suc, ◌+◌, ◌<◌}
use native.Mathlib.Nat.{suc-add, add-suc, add-zero}
use native.Mathlib.Numerals.{one-add}
use native.Mathlib.Omega.{arith}
use lib.ListN.{length, take, drop, length-append}
use lib.Dec.{lit<}
use Rattle.keccak.specs.Permutation.{permuted}
use Rattle.sponge.specs.Published.{xor_byte}
use Rattle.sponge.specs.Cut.{pieces, cut, puts}
use Rattle.sponge.specs.Waiting.{At}
use Rattle.sponge.specs.Model.{Sponge, fresh, absorb_bytes, pad, squeeze_bytes}
use Rattle.sponge.proofs.Waiting.{Held, held, steps-append, walk, steps-pieces}
use Rattle.sponge.proofs.Valid.{pad-position}
use Rattle.turboshake.specs.Published.{turboshake}
use Rattle.turboshake.proofs.Published.{squeeze-turboshake}
use Rattle.kangarootwelve.specs.Published.{length_encode, merged, chunk, marker, trailer, single_domain, intermediate_domain, final_domain, chaining_values, tree, kt}
use Rattle.kangarootwelve.specs.Tree.{Tree, fresh_tree, put_to, put_byte, end_chunk, absorb_tree, close_to, close_tree}

pub chunk_is : chunk ≡ 8192
unfolding chunk
chunk_is = refl

pub chunk_pos : 0 < chunk
unfolding chunk
chunk_pos = lit< tt

pub encode_pos : (n : ℕ) → 0 < length (length_encode n)
unfolding length_encode
encode_pos n = simp length-append (omega arith)

pub merged_pos : (m c : List ℕ) → 0 < length (merged m c)
unfolding merged
merged_pos m c = let h = encode_pos (length c) in simp length-append (omega arith)

pub merged-length : (m c : List ℕ) → length (merged m c) ≡ length m + length c + length (length_encode (length c))
unfolding merged
merged-length m c = rw (length-append, length-append)

-- KT is the tree of the chunks of S
pub kt-tree : (rate chaining : ℕ) (m c : List ℕ) (n : ℕ) → kt rate chaining m c n ≡ tree rate chaining (cut chunk (merged m c)) n
unfolding kt
kt-tree rate chaining m c n = refl

module _ (rate chaining : ℕ) where
  abbrev Put : Tree → ℕ → ℕ → Tree
  Put = put_byte rate

  abbrev Walk : Tree → List ℕ → List (List ℕ) → Tree
  Walk = walk (end_chunk rate chaining) Put chunk

  -- bytes of one chunk, one after the other
  pub in_first : (f l : Sponge) (i : ℕ) (p : List ℕ)
      → puts Put (record { final = f; leaf = l; index = 0 }) i p ≡ record { final = absorb_bytes permuted rate f p; leaf = l; index = 0 }
  in_first f l i [] = refl
  in_first f l i (b ∷ p) = in_first (absorb_bytes permuted rate f (b ∷ [])) l (suc i) p

  pub in_leaf : (k : ℕ) (f l : Sponge) (i : ℕ) (p : List ℕ)
      → puts Put (record { final = f; leaf = l; index = suc k }) i p ≡ record { final = f; leaf = absorb_bytes permuted rate l p; index = suc k }
  in_leaf k f l i [] = refl
  in_leaf k f l i (b ∷ p) = in_leaf k f (absorb_bytes permuted rate l (b ∷ [])) (suc i) p

  pub index-put : (k : ℕ) (f l : Sponge) (p : List ℕ) → (put_to rate k f l p).index ≡ k
  index-put zero f l p = refl
  index-put (suc k) f l p = refl

  pub puts_is : (t : Tree) (i : ℕ) (p : List ℕ) → puts Put t i p ≡ put_to rate t.index t.final t.leaf p
  puts_is t i p = by t.index t.final t.leaf
    where
      by : (k : ℕ) (f l : Sponge) → puts Put (record { final = f; leaf = l; index = k }) i p ≡ put_to rate k f l p
      by zero f l = in_first f l i p
      by (suc k) f l = in_leaf k f l i p

  -- the final node is closed at the first byte of a block
  pub close-position : (k : ℕ) (f l : Sponge) → (close_to rate chaining k f l).position ≡ 0
  close-position zero f l = pad-position permuted rate f _
  close-position (suc k) f l = pad-position permuted rate _ _

  -- a whole chunk, ended: chunk 0, and a later one, which is TurboSHAKE's
  pub end_first : (f l : Sponge) (p : List ℕ)
      → end_chunk rate chaining (puts Put (record { final = f; leaf = l; index = 0 }) 0 p) ≡ record { final = absorb_bytes permuted rate f (p ++ marker); leaf = fresh; index = 1 }
  end_first f l p = rw (in_first f l 0 p, ← steps-append permuted xor_byte rate f p)

  module _ (pos : 0 < rate) where
    pub end-leaf : (k : ℕ) (f : Sponge) (p : List ℕ)
        → end_chunk rate chaining (puts Put (record { final = f; leaf = fresh; index = suc k }) 0 p)
        ≡ record { final = absorb_bytes permuted rate f (turboshake rate p intermediate_domain chaining); leaf = fresh; index = suc (suc k) }
    end-leaf k f p = rw (in_leaf k f fresh 0 p, squeeze-turboshake rate pos p intermediate_domain chaining)

    -- chunk suc k in hand and ps to come, with x in the final node
    leaves : (ps : List (List ℕ)) (k : ℕ) (x p : List ℕ)
        → close_tree rate chaining (Walk (record { final = absorb_bytes permuted rate fresh x; leaf = fresh; index = suc k }) p ps)
        ≡ pad permuted rate (absorb_bytes permuted rate fresh (x ++ chaining_values rate chaining (p ∷ ps) ++ length_encode (suc k + length ps) ++ trailer)) final_domain
    leaves [] k x p =
        rw (in_leaf k (absorb_bytes permuted rate fresh x) fresh 0 p, squeeze-turboshake rate pos p intermediate_domain chaining, ← steps-append permuted xor_byte rate fresh x)
        (simp (append_assoc, append-nil, add-zero))
    leaves (q ∷ ps) k x p =
        ap (λ (t : Tree). close_tree rate chaining (Walk t q ps)) (end-leaf k (absorb_bytes permuted rate fresh x) p
        ∙ rw (← steps-append permuted xor_byte rate fresh x))
        ∙ leaves ps (suc k) (x ++ turboshake rate p intermediate_domain chaining) q
        ∙ simp (append_assoc, suc-add, add-suc)

    -- all the chunks
    chunks : (n : ℕ) (p : List ℕ) (ps : List (List ℕ)) → squeeze_bytes permuted rate n (close_tree rate chaining (Walk fresh_tree p ps)) ≡ tree rate chaining (p ∷ ps) n
    chunks n p [] = rw (in_first fresh fresh 0 p) (squeeze-turboshake rate pos p single_domain n)
    chunks n p (q ∷ ps) =
        ap (λ (t : Tree). squeeze_bytes permuted rate n (close_tree rate chaining (Walk t q ps))) (end_first fresh fresh p)
        ∙ ap (squeeze_bytes permuted rate n) (leaves ps 0 (p ++ marker) q)
        ∙ squeeze-turboshake rate pos (p ++ marker ++ chaining_values rate chaining (q ∷ ps) ++ length_encode (1 + length ps) ++ trailer) final_domain n
        ∙ rw one-add

    tree-cut : (s : List ℕ) (n : ℕ) → Held chunk (length s)
        → squeeze_bytes permuted rate n (close_tree rate chaining (absorb_tree rate chaining (record { value = fresh_tree; position = 0 }) s).value) ≡ tree rate chaining (cut chunk s) n
    tree-cut s n g =
        ap (λ (t : At Tree). squeeze_bytes permuted rate n (close_tree rate chaining t.value))
        (steps-pieces (end_chunk rate chaining) Put chunk chunk_pos g.q fresh_tree s g.lo g.hi)
        ∙ chunks n (take chunk s) (pieces g.q chunk (drop chunk s))
        ∙ ap (λ (k : ℕ). tree rate chaining (pieces k chunk s) n) (sym g.is)

    -- S byte by byte, closed and squeezed, is the published KT
    pub squeeze-kt : (m c : List ℕ) (n : ℕ)
        → squeeze_bytes permuted rate n (close_tree rate chaining (absorb_tree rate chaining (record { value = fresh_tree; position = 0 }) (merged m c)).value) ≡ kt rate chaining m c n
    unfolding kt
    squeeze-kt m c n = tree-cut (merged m c) n (held chunk_pos (merged_pos m c))
