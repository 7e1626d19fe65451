-- The call in one go: its status by cases, the chunks that lie wholly in the message, and that what is squeezed is the published KT.
-- Assumes nothing.
use mathlib.Core.Path.{◌≡◌, refl, sym, ap, ◌∙◌}
use mathlib.Core.List.{List, ◌++◌, append_assoc}
use Prim.Native.Nat.{ℕ, zero, suc, ◌+◌, ◌-◌, ◌*◌, ◌≤◌, ◌<◌, zero-le}
use native.Mathlib.Nat.{zero-mul, suc-mul, add_comm, le_refl, min-le_left}
use native.Mathlib.Decide.{dec_le}
use native.Mathlib.Omega.{arith}
use borrow.Author.Tests.{eq-eqb, ne_eqb, le-leb, lt-leb}
use lib.ListN.{length, take, drop, replicate, length-append, length-take, length-drop}
use lib.Seq.{take_all, take-append-le, drop-append-le, drop-drop}
use Rattle.keccak.specs.Permutation.{permuted}
use Rattle.sponge.specs.Waiting.{At}
use Rattle.sponge.specs.Model.{Sponge, fresh, absorb_bytes, squeeze_bytes, Outcome, absorb_call, squeeze_call, squeeze_output}
use Rattle.sponge.proofs.Waiting.{steps-append, steps_over}
use Rattle.sponge.proofs.Lent.{lent-refused, lent_done}
use Rattle.sponge.proofs.Valid.{fits-valid, squeeze_done, output_done}
use Rattle.turboshake.specs.Published.{turboshake_rounds, turboshake}
use Rattle.hasher.specs.Model.{one_go_output}
use Rattle.turboshake.specs.Transcript.{message_limit, output_limit, function}
use Rattle.turboshake.proofs.Published.{squeeze-turboshake}
use Rattle.turboshake.proofs.AtRate.{at_written}
use Rattle.kangarootwelve.specs.Published.{chunk, marker, length_encode, merged, intermediate_domain, kt}
use Rattle.kangarootwelve.specs.Transcript.{customization_limit, customization_status}
use Rattle.kangarootwelve.specs.Tree.{Tree, fresh_tree, put_byte, ending, end_chunk, absorb_tree, close_tree, finalize_tree}
use Rattle.kangarootwelve.specs.Model.{hash_status, hash_output, abreast_status, abreast_output}
use Rattle.kangarootwelve.specs.Inside.{tree_of, ended_chunk, ended_chunks}
use Rattle.kangarootwelve.specs.declared.Place.{Place}
use Rattle.kangarootwelve.proofs.Published.{chunk_is, chunk_pos, encode_pos, puts_is, squeeze-kt}
use Rattle.kangarootwelve.proofs.Nodes.{fresh_is, absorb_in, absorbed_is}

-- ---- the status

module _ (m c n : ℕ) where
  pub hash_2 : message_limit < m → 2 ≡ hash_status m c n
  unfolding hash_status
  hash_2 e = rw (lt-leb m message_limit e)

  module _ (e : m ≤ message_limit) where
    pub hash_4 : customization_limit < c → 4 ≡ hash_status m c n
    unfolding hash_status customization_status
    hash_4 f = rw (le-leb m message_limit e, lt-leb c customization_limit f)

    module _ (f : c ≤ customization_limit) where
      pub hash_7 : n ≡ 0 → 7 ≡ hash_status m c n
      unfolding hash_status customization_status
      hash_7 g = rw (le-leb m message_limit e, le-leb c customization_limit f, eq-eqb n 0 g)

      pub hash_6 : (n ≡ 0 → ⊥) → output_limit < n → 6 ≡ hash_status m c n
      unfolding hash_status customization_status
      hash_6 g h = rw (le-leb m message_limit e, le-leb c customization_limit f, ne_eqb n 0 g, lt-leb n output_limit h)

      pub hash_0 : (n ≡ 0 → ⊥) → n ≤ output_limit → 0 ≡ hash_status m c n
      unfolding hash_status customization_status
      hash_0 g h = rw (le-leb m message_limit e, le-leb c customization_limit f, ne_eqb n 0 g, le-leb n output_limit h)

-- a call that is done had lengths within the limits
pub hash-fits : (m c n : ℕ) → hash_status m c n ≡ 0 → (m ≤ message_limit) × (c ≤ customization_limit)
hash-fits m c n e = by (dec_le m message_limit) (dec_le c customization_limit)
  where
    by : Dec (m ≤ message_limit) → Dec (c ≤ customization_limit) → (m ≤ message_limit) × (c ≤ customization_limit)
    by (no f) d = absurd (let z : 2 ≡ 0 = hash_2 m c n (omega arith) ∙ e in omega arith)
    by (yes f) (no g) = absurd (let z : 4 ≡ 0 = hash_4 m c n f (omega arith) ∙ e in omega arith)
    by (yes f) (yes g) = (f, g)

-- ---- the output

module _ (rate chaining : ℕ) (m c out : List ℕ) where
  pub hash-refused : (hash_status (length m) (length c) (length out) ≡ 0 → ⊥) → out ≡ hash_output rate chaining m c out
  unfolding hash_output
  hash-refused h = lent-refused (hash_status (length m) (length c) (length out)) h (kt rate chaining m c (length out)) out

  pub hash-written : hash_status (length m) (length c) (length out) ≡ 0 → kt rate chaining m c (length out) ≡ hash_output rate chaining m c out
  unfolding hash_output
  hash-written e = rw e

-- ---- with n words lent

module _ (n m c k : ℕ) where
  pub hash_12 : (n ≡ 100 → ⊥) → 12 ≡ abreast_status n m c k
  unfolding abreast_status
  hash_12 h = rw (ne_eqb n 100 h)

  pub hash_100 : n ≡ 100 → hash_status m c k ≡ abreast_status n m c k
  unfolding abreast_status
  hash_100 h = rw (eq-eqb n 100 h)

module _ (rate chaining n : ℕ) (m c out : List ℕ) where
  pub abreast_kept : (abreast_status n (length m) (length c) (length out) ≡ 0 → ⊥) → out ≡ abreast_output rate chaining n m c out
  unfolding abreast_output
  abreast_kept h = lent-refused (abreast_status n (length m) (length c) (length out)) h (kt rate chaining m c (length out)) out

  pub abreast_written : abreast_status n (length m) (length c) (length out) ≡ 0 → kt rate chaining m c (length out) ≡ abreast_output rate chaining n m c out
  unfolding abreast_output
  abreast_written e = lent_done (abreast_status n (length m) (length c) (length out)) e (kt rate chaining m c (length out)) out

-- what follows n chunks of the message, as it is lent
pub part_rest : (n : ℕ) (m : List ℕ) → take (length m - n * 8192) (drop (n * 8192) m) ≡ drop (n * chunk) m
part_rest n m = rw chunk_is (take_all (length m - n * 8192) (drop (n * 8192) m) (rw length-drop (le_refl (length m - n * 8192))))

pub rest_length : (n : ℕ) (m : List ℕ) → length (take (length m - n * 8192) (drop (n * 8192) m)) ≤ length m
rest_length n m = rw (part_rest n m, length-drop) (omega arith)

-- a chunk as the loop lends it
pub chunk-length : (i : ℕ) (m : List ℕ) → length (take (i * 8192 + 8192 - i * 8192) (drop (i * 8192) m)) ≤ 8192
chunk-length i m = let e : i * 8192 + 8192 - i * 8192 ≡ 8192 = omega arith in rw (e, length-take) (min-le_left 8192 (length (drop (i * 8192) m)))

pub part_chunk : (i : ℕ) (m : List ℕ) → take (i * 8192 + 8192 - i * 8192) (drop (i * 8192) m) ≡ take chunk (drop (i * chunk) m)
part_chunk i m = let e : i * 8192 + 8192 - i * 8192 ≡ 8192 = omega arith in rw (e, chunk_is)

-- ---- a chunk that lies wholly in the message; o and q are what the sponge's calls leave

module _ (rate : ℕ) (pos : 0 < rate) (most : rate ≤ 200) where
  -- v is what the leaf hash wrote into a lent value of the length of w
  pub leaf_row : (node : Sponge) (p v w : List ℕ) (o : Outcome) → node.position ≤ rate → length p ≤ 8192 → 0 < length w → length w ≤ 64
      → v ≡ one_go_output (function rate) p intermediate_domain w → o ≡ absorb_call turboshake_rounds rate node v
      → o.state ≡ absorb_bytes permuted rate node (turboshake rate p intermediate_domain (length w))
  leaf_row node p v w o h l some few hashes absorbs =
      absorbed_is rate pos most node v o h absorbs
      ∙ ap (absorb_bytes permuted rate node) (hashes ∙ at_written rate pos most p intermediate_domain w (omega arith) (omega arith) (omega arith) some (omega arith))

  module _ (chaining : ℕ) where
    pub first_chunk : (node : Sponge) (i : ℕ) (p : List ℕ) (o q : Outcome) → i ≡ 0 → node.position ≤ rate → o ≡ absorb_call turboshake_rounds rate node p → q ≡ absorb_call turboshake_rounds rate o.state marker
        → record { final = q.state; leaf = fresh; index = suc i } ≡ ended_chunk rate chaining (record { final = node; leaf = fresh; index = i }) p
    first_chunk node i p o q z h absorbs marks =
        let o_is : o.state ≡ absorb_bytes permuted rate node p = absorbed_is rate pos most node p o h absorbs in
        let o-in : o.state.position ≤ rate = rw o_is (absorb_in rate pos node p h) in
        rw (absorbed_is rate pos most o.state marker q o-in marks, o_is, z)

    pub later_chunk : (node s : Sponge) (i : ℕ) (p v : List ℕ) → (i ≡ 0 → ⊥) → length v ≡ chaining → s ≡ absorb_bytes permuted rate node (turboshake rate p intermediate_domain (length v))
        → record { final = s; leaf = fresh; index = suc i } ≡ ended_chunk rate chaining (record { final = node; leaf = fresh; index = i }) p
    later_chunk node s zero p v z l e = absurd (z refl)
    later_chunk node s (suc k) p v z l e = rw (e, l, squeeze-turboshake rate pos p intermediate_domain chaining)

    pub ended_in : (t : Tree) (p : List ℕ) → t.final.position ≤ rate → (ended_chunk rate chaining t p).final.position ≤ rate
    ended_in t p h = by t.index t.final t.leaf h
      where
        by : (i : ℕ) (f l : Sponge) → f.position ≤ rate → (ended_chunk rate chaining (record { final = f; leaf = l; index = i }) p).final.position ≤ rate
        by zero f l h = absorb_in rate pos (absorb_bytes permuted rate f p) marker (absorb_in rate pos f p h)
        by (suc i) f l h = absorb_in rate pos f (ending rate chaining (suc i) (absorb_bytes permuted rate l p)) h

    -- ---- the loop: i chunks are in, and chunk i is next

    pub chunks_done : (n i : ℕ) (t : Tree) (m : List ℕ) → i ≡ n → ended_chunks rate chaining (n - i) t (drop (i * chunk) m) ≡ t
    chunks_done n i t m h = let e : n - i ≡ 0 = omega arith in rw e

    pub chunks_step : (n i : ℕ) (t : Tree) (m : List ℕ) → i < n
        → ended_chunks rate chaining (n - suc i) (ended_chunk rate chaining t (take chunk (drop (i * chunk) m))) (drop (suc i * chunk) m) ≡ ended_chunks rate chaining (n - i) t (drop (i * chunk) m)
    chunks_step n i t m h =
        let e : n - i ≡ suc (n - suc i) = omega arith in
        let d : drop chunk (drop (i * chunk) m) ≡ drop (suc i * chunk) m = drop-drop chunk (i * chunk) m ∙ rw (suc-mul i chunk) in
        rw (e, ← d)

    -- ---- the whole chunks, and what follows them

    pub chunks_tree : (n : ℕ) (t : Tree) (m s : List ℕ) → n * chunk ≤ length m → 0 < length s
        → absorb_tree rate chaining (record { value = t; position = 0 }) (m ++ s) ≡ absorb_tree rate chaining (record { value = ended_chunks rate chaining n t m; position = 0 }) (drop (n * chunk) m ++ s)
    chunks_tree zero t m s h l = rw zero-mul
    chunks_tree (suc n) t m s h l =
        let room : chunk < length (m ++ s) = rw length-append (omega (arith, suc-mul n chunk)) in
        let here : chunk ≤ length m = omega (arith, suc-mul n chunk) in
        let rest : n * chunk ≤ length (drop chunk m) = rw length-drop (omega (arith, suc-mul n chunk)) in
        let d : drop (n * chunk) (drop chunk m) ≡ drop (suc n * chunk) m = drop-drop (n * chunk) chunk m ∙ rw (suc-mul n chunk, add_comm chunk (n * chunk)) in
        steps_over (end_chunk rate chaining) (put_byte rate) chunk chunk_pos t (m ++ s) room
        ∙ rw (take-append-le chunk m s here, drop-append-le chunk m s here, puts_is rate chaining t 0 (take chunk m))
        (chunks_tree n (ended_chunk rate chaining t (take chunk m)) (drop chunk m) s rest l)
        ∙ ap (λ (x : List ℕ). absorb_tree rate chaining (record { value = ended_chunks rate chaining (suc n) t m; position = 0 }) (x ++ s)) d

    -- the tree that the loop leaves
    pub chunks_left : (node : List ℕ) (p n : ℕ) (m : List ℕ)
        → record { final = record { value = node; position = p }; leaf = fresh; index = n } ≡ ended_chunks rate chaining n (record { final = record { value = replicate 25 0; position = 0 }; leaf = fresh; index = 0 }) m
        → ◌≡◌ {A = At Tree} (record { value = record { final = record { value = node; position = p }; leaf = record { value = replicate 25 0; position = 0 }; index = n }; position = 0 })
        (record { value = ended_chunks rate chaining n fresh_tree m; position = 0 })
    chunks_left node p n m e =
        ap (λ (s : Sponge). record { value = record { final = record { value = node; position = p }; leaf = s; index = n }; position = 0 }) fresh_is
        ∙ ap (λ (t : Tree). record { value = t; position = 0 }) (e ∙ ap (λ (s : Sponge). ended_chunks rate chaining n (record { final = s; leaf = fresh; index = 0 }) m) fresh_is)

    -- what is squeezed after the whole chunks, the rest of the message, C and its length
    pub squeeze-whole : (m c : List ℕ) (n k : ℕ) → n * chunk ≤ length m
        → squeeze_bytes permuted rate k (finalize_tree rate chaining (absorb_tree rate chaining (record { value = ended_chunks rate chaining n fresh_tree m; position = 0 }) (drop (n * chunk) m)) c)
        ≡ kt rate chaining m c k
    unfolding merged
    squeeze-whole m c n k h =
        let e : List ℕ = c ++ length_encode (length c) in
        let some : 0 < length e = let l = encode_pos (length c) in rw length-append (omega arith) in
        let t : At Tree = record { value = ended_chunks rate chaining n fresh_tree m; position = 0 } in
        let rest : At Tree = absorb_tree rate chaining t (drop (n * chunk) m) in
        ap (λ (x : At Tree). squeeze_bytes permuted rate k (close_tree rate chaining x.value))
        (sym (steps-append (end_chunk rate chaining) (put_byte rate) chunk rest c (length_encode (length c)))
        ∙ sym (steps-append (end_chunk rate chaining) (put_byte rate) chunk t (drop (n * chunk) m) e)
        ∙ sym (chunks_tree n fresh_tree m e h some)
        ∙ ap (absorb_tree rate chaining (record { value = fresh_tree; position = 0 })) (sym (append_assoc m c (length_encode (length c)))))
        ∙ squeeze-kt rate chaining pos m c k

    pub hash_row : (m c out node : List ℕ) (n : ℕ) (t : At Tree) (o : Outcome) (r : List ℕ) → n * chunk ≤ length m
        → t ≡ absorb_tree rate chaining (record { value = ended_chunks rate chaining n fresh_tree m; position = 0 }) (drop (n * chunk) m)
        → record { value = node; position = 0 } ≡ finalize_tree rate chaining t c
        → o ≡ squeeze_call turboshake_rounds rate (record { value = node; position = 0 }) (length out) → r ≡ squeeze_output turboshake_rounds rate (record { value = node; position = 0 }) out
        → (o.status ≡ 0) × (r ≡ kt rate chaining m c (length out))
    hash_row m c out node n t o r h absorbs closes squeezes writes =
        let ok = fits-valid turboshake_rounds rate 0 refl zero-le pos most in (
          ap (λ (u : Outcome). u.status) (squeezes ∙ squeeze_done turboshake_rounds rate (record { value = node; position = 0 }) ok (length out)),
          writes ∙ output_done turboshake_rounds rate (record { value = node; position = 0 }) ok out
              ∙ ap (squeeze_bytes permuted rate (length out)) (closes ∙ ap (λ (x : At Tree). finalize_tree rate chaining x c) absorbs)
              ∙ squeeze-whole m c n (length out) h,
        )

    -- from the tree of no bytes, whose place is q
    pub whole_row : (m c out node : List ℕ) (q : Place) (t : At Tree) (o : Outcome) (r : List ℕ) → q ≡ record { node = 0; leaf = 0; index = 0; position = 0 }
        → t ≡ absorb_tree rate chaining (tree_of (replicate 25 0) (replicate 25 0) q) m → record { value = node; position = 0 } ≡ finalize_tree rate chaining t c
        → o ≡ squeeze_call turboshake_rounds rate (record { value = node; position = 0 }) (length out) → r ≡ squeeze_output turboshake_rounds rate (record { value = node; position = 0 }) out
        → (o.status ≡ 0) × (r ≡ kt rate chaining m c (length out))
    whole_row m c out node q t o r eq et =
        let start : tree_of (replicate 25 0) (replicate 25 0) q ≡ record { value = fresh_tree; position = 0 } =
        ap (tree_of (replicate 25 0) (replicate 25 0)) eq ∙ ap (λ (s : Sponge). record { value = record { final = s; leaf = s; index = 0 }; position = 0 }) fresh_is in
        hash_row m c out node 0 t o r (rw zero-mul zero-le)
        (et ∙ ap (λ (x : At Tree). absorb_tree rate chaining x m) start ∙ ap (λ (n : ℕ). absorb_tree rate chaining (record { value = fresh_tree; position = 0 }) (drop n m)) (sym (zero-mul chunk)))
