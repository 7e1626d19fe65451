-- The permutations of KT's definition so far (request Q-10): those of the final node and of all leaves. A full leaf is closed when the next chunk's
-- first byte arrives, or at the close.
-- Assumes nothing.
use Rattle.std.specs.Prelude.{List, cond, ℕ, zero, suc, ◌+◌, ◌*◌, length, eqb}
use Rattle.keccak.specs.Permutation.{permuted}
use Rattle.sponge.specs.Published.{xor_byte, zero_lanes}
use Rattle.sponge.specs.Waiting.{At, position_after, index_after}
use Rattle.sponge.specs.Cut.{ceil}
use Rattle.sponge.specs.Count.{counted, uncounted, open_count, closed_count, read_count}
use Rattle.kangarootwelve.specs.Published.{length_encode, chunk}
use Rattle.kangarootwelve.specs.Tree.{Contents, TreeOf, absorb_tree_of, finished_of, finalized_of}

-- ---- what is counted is the definition: the tree whose nodes count their permutations. A new leaf goes on with the count of those before it

abbrev pub lanes_counted : Contents (List ℕ × ℕ)
lanes_counted = record { permute = counted permuted; put = uncounted xor_byte; lanes = λ x. x.0; next_leaf = λ x. (zero_lanes, x.1) }

abbrev pub CountedTree : Type 0
CountedTree = TreeOf (List ℕ × ℕ)

abbrev pub permutations_of : CountedTree → ℕ
permutations_of t = t.final.value.1 + t.leaf.value.1

module _ (rate chaining : ℕ) where
  -- after more bytes of S; where M and C are in, C of n bytes, and the tree is closed; where M is in, and C follows
  abbrev pub count_absorbed : At CountedTree → List ℕ → ℕ
  count_absorbed t p = permutations_of (absorb_tree_of lanes_counted rate chaining t p).value

  abbrev pub count_finished : At CountedTree → ℕ → ℕ
  count_finished t n = permutations_of (finished_of lanes_counted rate chaining t n)

  abbrev pub count_finalized : At CountedTree → List ℕ → ℕ
  count_finalized t c = permutations_of (finalized_of lanes_counted rate chaining t c)

  -- ---- what it comes to by the totals: with o bytes of chunk q in hand; and closed so, with j bytes squeezed

  -- the bytes of the final node when chunk k is closed
  abbrev pub node_length : ℕ → ℕ
  node_length k = chunk + 8 + k * chaining + length (length_encode k) + 2

  -- the final node, the full leaves, each with its chaining value, and the leaf in hand
  abbrev pub tree_count : ℕ → ℕ → ℕ
  tree_count zero o = open_count rate o
  tree_count (suc k) o = open_count rate (chunk + 8 + k * chaining) + k * closed_count rate chunk chaining + open_count rate o

  abbrev pub closed_tree : ℕ → ℕ → ℕ → ℕ
  closed_tree zero o j = closed_count rate o j
  closed_tree (suc k) o j = closed_count rate (node_length (suc k)) j + k * closed_count rate chunk chaining + closed_count rate o chaining

  -- the same in the request's words, each node by TurboSHAKE's: of m bytes, closed, with n squeezed
  abbrev pub node_words : ℕ → ℕ → ℕ
  node_words m n = ceil rate (m + 1) + read_count rate n

  abbrev pub tree_words : ℕ → ℕ → ℕ
  tree_words zero o = read_count rate o
  tree_words (suc k) o = read_count rate (chunk + 8 + k * chaining) + k * node_words chunk chaining + read_count rate o

  abbrev pub closed_words : ℕ → ℕ → ℕ → ℕ
  closed_words zero o j = node_words o j
  closed_words (suc k) o j = node_words (node_length (suc k)) j + k * node_words chunk chaining + node_words o chaining

  -- of a run: n bytes of M and C, c of them C's; in phases 0 and 2, and in phase 1 with j squeezed
  unfoldable pub open_kt : ℕ → ℕ
  open_kt n = tree_count (index_after chunk n) (position_after chunk n)

  unfoldable pub closed_kt : ℕ → ℕ → ℕ → ℕ
  closed_kt n c j = closed_tree (index_after chunk (n + length (length_encode c))) (position_after chunk (n + length (length_encode c))) j

  abbrev pub count_due : ℕ → ℕ → ℕ → ℕ → ℕ
  count_due phase n c j = cond (eqb phase 1) (closed_kt n c j) (open_kt n)
