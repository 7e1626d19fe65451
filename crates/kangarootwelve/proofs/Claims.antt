-- The claims of specs/Claims.antt: those of the machine, on the code's own runs.
-- Assumes nothing.
use mathlib.Core.Path.{◌≡◌, refl, sym, ap, ◌∙◌}
use mathlib.Core.List.{List, [], ◌∷◌, ◌++◌}
use Prim.Native.Nat.{ℕ, zero, suc, ◌+◌, ◌*◌, ◌<◌}
use native.Mathlib.Nat.{add-zero, zero-add}
use native.Mathlib.Omega.{arith}
use lib.ListN.{length, length-append}
use borrow.Author.Tests.{ne_eqb}
use Rattle.keccak.specs.Permutation.{permuted}
use Rattle.abreast.specs.Four.{states_status}
use Rattle.sponge.specs.Waiting.{At, position_after, index_after}
use Rattle.sponge.specs.Count.{Counted, sponge_of}
use Rattle.sponge.specs.Transcript.{Call, Phase, Phase.absorbing, Phase.customizing, Phase.squeezing, phase_number, Transcript, Reply}
use Rattle.sponge.specs.Callable.{All}
use Rattle.sponge.specs.Runs as runs
use Rattle.sponge.specs.Runs.{fresh_run, perform}
use Rattle.sponge.specs.Lending.{CallWith, unless_refused, plainly}
use Rattle.sponge.specs.Streaming as streaming
use Rattle.sponge.specs.Streaming.{History}
use Rattle.sponge.proofs.Position.{After}
use Rattle.sponge.proofs.Valid.{pad_with-position}
use Rattle.sponge.proofs.Count.{added, after-counted, open_words, closed_words_lem}
use Rattle.sponge.proofs.Lending.{told-fits_with, history-plainly, taken, left_taken, taken_can}
use Rattle.sponge.proofs.Reachable as generic
use Rattle.kangarootwelve.specs.Published.{chunk, length_encode}
use Rattle.kangarootwelve.specs.Transcript.{customized_of, Callable, CallableWith, rules}
use Rattle.kangarootwelve.specs.Tree.{Tree, absorb_tree_of, close_to_of, finalized_of}
use Rattle.kangarootwelve.specs.Count.{lanes_counted, CountedTree, permutations_of, node_length, tree_count, closed_tree, tree_words, closed_words, open_kt, closed_kt}
use Rattle.kangarootwelve.specs.Model.{Nodes, machine, seen, held, answer_of, reply_of, answer_abreast, hash_output, abreast_status, abreast_output}
use Rattle.kangarootwelve.specs.Claims.{fresh_counted_tree, squeezed_tree, told, ran, defined_count, told_count, fed, whole, run_told, Joining, OneGo, Counts, Reached, Five, Strengths}
use Rattle.kangarootwelve.specs.declared.Run.{Run}
use Rattle.kangarootwelve.proofs.Numbered.{number_tree, number_finalize, Told, numbered_told, finish-told, squeezed-told}
use Rattle.kangarootwelve.proofs.CountedTree.{both_absorbed, finalized_number, number_at}
use Rattle.kangarootwelve.proofs.Laws.{positions, first_is, second_is, third_is, fresh_nodes, fresh_due, told_at, absorb_due, laws}
use Rattle.kangarootwelve.proofs.Cases.{open_count_lem, closed_count_lem}
use Rattle.kangarootwelve.proofs.OneGo.{hash_12, abreast_kept}
use Rattle.kangarootwelve.proofs.Streaming.{corollaries, history_code, streams_code, count_told}

module _ (rate chaining : ℕ) (pos : 0 < rate) where
  -- ---- the permutations

  -- of M alone, or of M and C in the customization phase
  opened : (s : List ℕ) → permutations_of (absorb_tree_of lanes_counted rate chaining fresh_counted_tree s).value ≡ open_kt rate chaining (length s)
  opened s =
      third_is (absorb_due rate chaining pos 0 fresh_nodes s 0 (fresh_due rate chaining pos)) ∙ ap (open_kt rate chaining) (zero-add (length s))

  closed_at_0 : (k : ℕ) (f l : Counted) → (close_to_of lanes_counted rate chaining k f l).position ≡ 0
  closed_at_0 zero f l = pad_with-position _ rate _ f _
  closed_at_0 (suc k) f l = pad_with-position _ rate _ _ _

  -- the close after M and C
  module _ (f c : List ℕ) where
    abbrev closed : CountedTree
    closed = finalized_of lanes_counted rate chaining (absorb_tree_of lanes_counted rate chaining fresh_counted_tree f) c

    closed_number : permutations_of closed ≡ closed_kt rate chaining (length f + length c) (length c) 0
    closed_number =
        let t : At (Tree × ℕ) = number_tree rate chaining (number_at 0 fresh_nodes) f in
        let e : After chunk (Told rate chaining pos) (length f) t = rw zero-add at (numbered_told rate chaining pos 0 (number_at 0 fresh_nodes) f (told_at rate chaining pos 0 fresh_nodes (fresh_due rate chaining pos))) in
        finalized_number rate chaining (absorb_tree_of lanes_counted rate chaining fresh_counted_tree f) c
        ∙ ap (λ (u : At (Tree × ℕ)). number_finalize rate chaining u c) (both_absorbed rate chaining fresh_counted_tree f)
        ∙ finish-told rate chaining pos (length f + length c) (length c) (number_tree rate chaining t c) (numbered_told rate chaining pos (length f) t c e)

    read : (n : ℕ) → permutations_of (squeezed_tree rate n closed) ≡ closed_kt rate chaining (length f + length c) (length c) n
    read n =
        let s : Counted = closed.final in
        let t : CountedTree = (absorb_tree_of lanes_counted rate chaining (absorb_tree_of lanes_counted rate chaining (absorb_tree_of lanes_counted rate chaining fresh_counted_tree f) c) (length_encode (length c))).value in
        let a = ap (λ (u : Counted). u.value.1) (after-counted permuted rate n (sponge_of s) s.value.1) in
        let z : added rate s.position n ≡ added rate (position_after rate 0) n = ap (λ (p : ℕ). added rate p n) (closed_at_0 t.index t.final t.leaf) in
        let e : closed_kt rate chaining (length f + length c) (length c) 0 + added rate (position_after rate 0) n ≡ closed_kt rate chaining (length f + length c) (length c) n =
        squeezed-told rate chaining pos (length f + length c) (length c) 0 n ∙ ap (closed_kt rate chaining (length f + length c) (length c)) (zero-add n) in
        omega (arith, a, z, e, closed_number)

  defined_by : (f : List ℕ) (h : Phase (List ℕ)) (n : ℕ) → defined_count rate chaining (record { absorbed = f; phase = h; squeezed = n }) ≡ told_count rate chaining (record { absorbed = f; phase = h; squeezed = n })
  defined_by f absorbing n = opened f ∙ ap (open_kt rate chaining) (sym (add-zero (length f)))
  defined_by f (customizing c) n = opened (f ++ c) ∙ ap (open_kt rate chaining) (length-append f c)
  defined_by f (squeezing c) n = read f c n

  pub defined_told : (t : Transcript (List ℕ)) → defined_count rate chaining t ≡ told_count rate chaining t
  defined_told t = defined_by t.absorbed t.phase t.squeezed

  totals : (cs : List (CallWith (List ℕ))) → (ran rate chaining cs).left.permutations ≡ told_count rate chaining (told rate chaining cs).left
  totals cs =
      ap (λ (r : Run). r.permutations) (streams_code rate chaining pos cs).run
      ∙ count_told rate chaining pos (told rate chaining cs).left (told-fits_with (rules rate chaining) (machine rate chaining) (laws rate chaining pos) cs)

  -- in the request's words
  tree_words_lem : (q o : ℕ) → tree_count rate chaining q o ≡ tree_words rate chaining q o
  tree_words_lem zero o = open_words rate pos o
  tree_words_lem (suc k) o =
      let a = open_words rate pos (chunk + 8 + k * chaining) in
      let b = ap (λ (n : ℕ). k * n) (closed_words_lem rate pos chunk chaining) in
      let d = open_words rate pos o in
      λ i. a i + b i + d i

  closed_tree-words : (q o j : ℕ) → closed_tree rate chaining q o j ≡ closed_words rate chaining q o j
  closed_tree-words zero o j = closed_words_lem rate pos o j
  closed_tree-words (suc k) o j =
      let a = closed_words_lem rate pos (node_length rate chaining (suc k)) j in
      let b = ap (λ (n : ℕ). k * n) (closed_words_lem rate pos chunk chaining) in
      let d = closed_words_lem rate pos o chaining in
      λ i. a i + b i + d i

  phase-told : (cs : List (CallWith (List ℕ))) → (ran rate chaining cs).left.phase ≡ phase_number (told rate chaining cs).left.phase
  phase-told cs = ap (λ (r : Run). r.phase) (streams_code rate chaining pos cs).run

  while_open : (cs : List (CallWith (List ℕ))) → ((ran rate chaining cs).left.phase ≡ 1 → ⊥)
      → (ran rate chaining cs).left.permutations
      ≡ tree_words rate chaining (index_after chunk (fed rate chaining (told rate chaining cs).left)) (position_after chunk (fed rate chaining (told rate chaining cs).left))
  unfolding open_kt
  while_open cs h =
      let t : Transcript (List ℕ) = (told rate chaining cs).left in
      totals cs ∙ sym (open_count_lem rate chaining (phase_number t.phase) (fed rate chaining t) (customized_of t.phase) t.squeezed (λ e. h (phase-told cs ∙ e)))
      ∙ tree_words_lem (index_after chunk (fed rate chaining t)) (position_after chunk (fed rate chaining t))

  once_closed : (cs : List (CallWith (List ℕ))) → (ran rate chaining cs).left.phase ≡ 1
      → (ran rate chaining cs).left.permutations
      ≡ closed_words rate chaining (index_after chunk (whole rate chaining (told rate chaining cs).left)) (position_after chunk (whole rate chaining (told rate chaining cs).left)) (told rate chaining cs).left.squeezed
  unfolding closed_kt
  once_closed cs h =
      let t : Transcript (List ℕ) = (told rate chaining cs).left in
      totals cs ∙ sym (closed_count_lem rate chaining (phase_number t.phase) (fed rate chaining t) (customized_of t.phase) t.squeezed (sym (phase-told cs) ∙ h))
      ∙ closed_tree-words (index_after chunk (whole rate chaining t)) (position_after chunk (whole rate chaining t)) t.squeezed

  pub counts : Counts rate chaining
  counts = record {
    definition = λ cs. totals cs ∙ sym (defined_told (told rate chaining cs).left);
    totals = totals;
    while_open = while_open;
    once_closed = once_closed;
  }

  -- ---- status 5

  -- the calls that their slices do not refuse leave what all of them leave
  left_is : (cs : List (CallWith (List ℕ))) → (ran rate chaining cs).left ≡ held (streaming.ran (rules rate chaining) (machine rate chaining) (taken cs)).left
  left_is cs =
      ap (λ (h : History Run). h.left) (history_code rate chaining pos cs)
      ∙ ap held (left_taken (perform (rules rate chaining) (machine rate chaining)) cs (fresh_run (rules rate chaining) (machine rate chaining)))

  plain_left : (cs : List (Call (List ℕ))) → (ran rate chaining (plainly cs)).left ≡ held (streaming.ran (rules rate chaining) (machine rate chaining) cs).left
  plain_left cs =
      ap (λ (h : History Run). h.left) (history_code rate chaining pos (plainly cs))
      ∙ ap (λ (h : History (runs.Run Nodes)). held h.left) (history-plainly (perform (rules rate chaining) (machine rate chaining)) cs (fresh_run (rules rate chaining) (machine rate chaining)))

  plain-callable : (cs : List (Call (List ℕ))) → All Callable cs → All CallableWith (plainly cs)
  plain-callable [] h = tt
  plain-callable (c ∷ cs) h = ((h.0, tt), plain-callable cs h.1)

  to_machine : (r : Run) → Reached rate chaining r → generic.Reached (rules rate chaining) (machine rate chaining) positions Callable (seen r)
  unfolding machine
  to_machine r g =
      let cs : List (CallWith (List ℕ)) = g.calls in
      let node = sym (ap (λ (q : Run). q.node.position) (left_is cs)) ∙ g.node_is in
      let leaf = sym (ap (λ (q : Run). q.leaf.position) (left_is cs)) ∙ g.leaf_is in
      let permutations = sym (ap (λ (q : Run). q.permutations) (left_is cs)) ∙ g.permutations_is in
      record {
        calls = taken cs;
        calls_can = taken_can Callable CallableWith (λ c h. h.0) cs g.callable;
        phase_is = sym (ap (λ (q : Run). q.phase) (left_is cs)) ∙ g.phase_is;
        absorbed_is = sym (ap (λ (q : Run). q.absorbed) (left_is cs)) ∙ g.absorbed_is;
        customized_is = sym (ap (λ (q : Run). q.customized) (left_is cs)) ∙ g.customized_is;
        limit_is = refl;
        squeezed_is = sym (ap (λ (q : Run). q.squeezed) (left_is cs)) ∙ g.squeezed_is;
        positions_are = λ i. node i ∷ leaf i ∷ permutations i ∷ [];
      }

  to_code : (r : Run) → generic.Reached (rules rate chaining) (machine rate chaining) positions Callable (seen r) → Reached rate chaining r
  unfolding machine
  to_code r g =
      let cs : List (Call (List ℕ)) = g.calls in
      record {
        calls = plainly cs;
        callable = plain-callable cs g.calls_can;
        phase_is = ap (λ (q : Run). q.phase) (plain_left cs) ∙ g.phase_is;
        absorbed_is = ap (λ (q : Run). q.absorbed) (plain_left cs) ∙ g.absorbed_is;
        customized_is = ap (λ (q : Run). q.customized) (plain_left cs) ∙ g.customized_is;
        squeezed_is = ap (λ (q : Run). q.squeezed) (plain_left cs) ∙ g.squeezed_is;
        node_is = ap (λ (q : Run). q.node.position) (plain_left cs) ∙ first_is g.positions_are;
        leaf_is = ap (λ (q : Run). q.leaf.position) (plain_left cs) ∙ second_is g.positions_are;
        permutations_is = ap (λ (q : Run). q.permutations) (plain_left cs) ∙ third_is g.positions_are;
      }

  pub five : Five rate chaining
  unfolding answer_of
  five = record {
    five_unreached = λ r c e g. (corollaries rate chaining pos).five.five_unreached (seen r) c e (to_machine r g);
    unreached_five = λ r c h. (corollaries rate chaining pos).five.unreached_five (seen r) c (λ g. h (to_code r g));
    other_reached = λ r c h. to_code r ((corollaries rate chaining pos).five.other_reached (seen r) c h);
  }

  -- ---- the law of joining

  refused_with : (r : Run) (n : ℕ) (x : Reply Run) → (n ≡ 100 → ⊥) → unless_refused (states_status n) r x ≡ record { status = 12; bytes = []; left = r }
  refused_with r n x h = rw (ne_eqb n 100 h)

  pub joining : Joining rate chaining
  unfolding answer_abreast reply_of
  joining = record {
    streams = streams_code rate chaining pos;
    equal_transcripts = λ cs ds e. (streams_code rate chaining pos cs).run ∙ ap (run_told rate chaining) e ∙ sym (streams_code rate chaining pos ds).run;
    abreast_plain = λ r p. refl;
    abreast_refused = λ r n p h. ap (λ (x : Reply Run). record { status = x.status; run = x.left }) (refused_with r n _ h);
  }

  pub one_go : OneGo rate chaining
  unfolding abreast_status abreast_output hash_output
  one_go = record {
    plain-status = λ m c n. refl;
    plain-output = λ m c out. refl;
    refused-status = λ k m c n h. sym (hash_12 k m c n h);
    refused-output = λ k m c out h. sym (abreast_kept rate chaining k m c out (λ e. omega (arith, hash_12 k (length m) (length c) (length out) h, e)));
  }

pub strengths : Strengths
strengths = record {
  joining128 = joining 168 32 (omega arith);
  joining256 = joining 136 64 (omega arith);
  one_go128 = one_go 168 32 (omega arith);
  one_go256 = one_go 136 64 (omega arith);
  counts128 = counts 168 32 (omega arith);
  counts256 = counts 136 64 (omega arith);
  five128 = five 168 32 (omega arith);
  five256 = five 136 64 (omega arith);
}
