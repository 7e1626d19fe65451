-- KT byte by byte over two nodes, each a sponge: the final node, and the leaf in hand. A full chunk is ended when the next one's first byte
-- arrives, or at the close; so a second chunk is opened only by its first byte.
-- Assumes nothing.
use Rattle.std.specs.Prelude.{List, [], ◌∷◌, ◌++◌, ℕ, zero, suc, length}
use Rattle.keccak.specs.Permutation.{permuted}
use Rattle.sponge.specs.Published.{xor_byte, zero_lanes}
use Rattle.sponge.specs.Waiting.{At, steps}
use Rattle.sponge.specs.Model.{Sponge, fresh, pad_with, squeeze_bytes, after_bytes}
use Rattle.kangarootwelve.specs.Published.{length_encode, chunk, marker, trailer, single_domain, intermediate_domain, final_domain}

-- what the nodes hold, their lanes or their lanes with a count beside them: its permutation, a byte put into it, its lanes, and what a new leaf
-- holds in place of the one before it
pub record Contents (X : Type 0) : Type 0 where
  pub permute : X → X
  pub put : X → ℕ → ℕ → X
  pub lanes : X → List ℕ
  pub next_leaf : X → X

-- the two nodes, and the number of the chunk in hand
pub record TreeOf (X : Type 0) : Type 0 where
  pub final : At X
  pub leaf : At X
  pub index : ℕ

module _ {X : Type 0} (H : Contents X) (rate : ℕ) where
  abbrev pub absorb_node : At X → List ℕ → At X
  absorb_node = steps H.permute H.put rate

  abbrev pub pad_node : At X → ℕ → At X
  pad_node = pad_with H.permute rate H.put

  -- bytes of chunk 0 go to the final node, bytes of a later one to the leaf
  abbrev pub put_to_of : ℕ → At X → At X → List ℕ → TreeOf X
  put_to_of zero final leaf bytes = record { final = absorb_node final bytes; leaf = leaf; index = 0 }
  put_to_of (suc k) final leaf bytes = record { final = final; leaf = absorb_node leaf bytes; index = suc k }

  abbrev pub put_byte_of : TreeOf X → ℕ → ℕ → TreeOf X
  put_byte_of t i b = put_to_of t.index t.final t.leaf (b ∷ [])

module _ {X : Type 0} (H : Contents X) (rate chaining : ℕ) where
  -- what the final node gets when the chunk in hand is full and another follows: the marker, or the leaf's chaining value
  abbrev pub ending_of : ℕ → At X → List ℕ
  ending_of zero leaf = marker
  ending_of (suc k) leaf =
      squeeze_bytes permuted rate chaining (record { value = H.lanes (pad_node H rate leaf intermediate_domain).value; position = (pad_node H rate leaf intermediate_domain).position })

  -- the leaf once that is squeezed, and the leaf of the next chunk
  abbrev pub squeezed_leaf : ℕ → At X → At X
  squeezed_leaf zero leaf = leaf
  squeezed_leaf (suc k) leaf = after_bytes H.permute rate chaining (pad_node H rate leaf intermediate_domain)

  abbrev pub new_leaf : ℕ → At X → At X
  new_leaf k leaf = record { value = H.next_leaf (squeezed_leaf k leaf).value; position = 0 }

  abbrev pub end_chunk_of : TreeOf X → TreeOf X
  end_chunk_of t = record { final = absorb_node H rate t.final (ending_of t.index t.leaf); leaf = new_leaf t.index t.leaf; index = suc t.index }

  abbrev pub absorb_tree_of : At (TreeOf X) → List ℕ → At (TreeOf X)
  absorb_tree_of = steps end_chunk_of (put_byte_of H rate) chunk

  -- all of S is in: the final node is ready to be squeezed
  abbrev pub close_to_of : ℕ → At X → At X → At X
  close_to_of zero final leaf = pad_node H rate final single_domain
  close_to_of (suc k) final leaf = pad_node H rate (absorb_node H rate final (ending_of (suc k) leaf ++ length_encode (suc k) ++ trailer)) final_domain

  abbrev pub closed_of : TreeOf X → TreeOf X
  closed_of t = record { final = close_to_of t.index t.final t.leaf; leaf = new_leaf t.index t.leaf; index = t.index }

  -- M and C are in, C of n bytes: its length follows, and the tree is closed
  abbrev pub finished_of : At (TreeOf X) → ℕ → TreeOf X
  finished_of t n = closed_of (absorb_tree_of t (length_encode n)).value

  -- M is in: C and its length follow, and the tree is closed
  abbrev pub finalized_of : At (TreeOf X) → List ℕ → TreeOf X
  finalized_of t c = finished_of (absorb_tree_of t c) (length c)

-- ---- over the lanes alone, which the code works on

abbrev pub lanes_alone : Contents (List ℕ)
lanes_alone = record { permute = permuted; put = xor_byte; lanes = λ a. a; next_leaf = λ a. zero_lanes }

abbrev pub Tree : Type 0
Tree = TreeOf (List ℕ)

abbrev pub fresh_tree : Tree
fresh_tree = record { final = fresh; leaf = fresh; index = 0 }

abbrev pub put_to : ℕ → ℕ → Sponge → Sponge → List ℕ → Tree
put_to = put_to_of lanes_alone

abbrev pub put_byte : ℕ → Tree → ℕ → ℕ → Tree
put_byte = put_byte_of lanes_alone

abbrev pub ending : ℕ → ℕ → ℕ → Sponge → List ℕ
ending = ending_of lanes_alone

abbrev pub end_chunk : ℕ → ℕ → Tree → Tree
end_chunk = end_chunk_of lanes_alone

abbrev pub absorb_tree : ℕ → ℕ → At Tree → List ℕ → At Tree
absorb_tree = absorb_tree_of lanes_alone

abbrev pub close_to : ℕ → ℕ → ℕ → Sponge → Sponge → Sponge
close_to = close_to_of lanes_alone

abbrev pub close_tree : ℕ → ℕ → Tree → Sponge
close_tree rate chaining t = (closed_of lanes_alone rate chaining t).final

abbrev pub finish_tree : ℕ → ℕ → At Tree → ℕ → Sponge
finish_tree rate chaining t n = (finished_of lanes_alone rate chaining t n).final

abbrev pub finalize_tree : ℕ → ℕ → At Tree → List ℕ → Sponge
finalize_tree rate chaining t c = (finalized_of lanes_alone rate chaining t c).final
