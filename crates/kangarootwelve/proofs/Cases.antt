-- The cases of what each call answers, for the proofs of the code. Assumes nothing.
use mathlib.Core.Path.{◌≡◌, refl, sym, ap, ◌∙◌, subst}
use mathlib.Core.Bool.{Bool, true, false, cond}
use mathlib.Core.List.{List, [], ◌∷◌}
use Prim.Native.Nat.{ℕ, zero, suc, ◌+◌, ◌-◌, ◌/◌, ◌%◌, ◌≤◌, ◌<◌, zero-le}
use native.Mathlib.Nat.{add-zero, le_trans, le-suc, div-le_self}
use native.Mathlib.Numerals.{add-one}
use native.Mathlib.Omega.{arith}
use borrow.Author.Tests.{eq-eqb, ne_eqb, eqb-true}
use lib.Dec.{T, eqb}
use lib.ListN.{length, replicate}
use Rattle.sponge.specs.Waiting.{At, position_after, index_after}
use Rattle.sponge.specs.Model.{Sponge, fresh, Outcome, squeeze_call, squeeze_output}
use Rattle.sponge.specs.Transcript.{Call, Call.absorb, Call.customize, Call.finalize, Call.finish, Call.squeeze}
use Rattle.sponge.specs.Runs as runs
use Rattle.sponge.specs.Runs.{worked, bytes_out, run_status}
use Rattle.sponge.proofs.Valid.{fits-valid, squeeze_done}
use Rattle.sponge.proofs.Valid.{output_done as valid-output}
use Rattle.sponge.proofs.Joining.{perform_done, perform-refused}
use Rattle.sponge.proofs.Reachable.{Shape, Fixed}
use Rattle.sponge.proofs.Answers as answers
use Rattle.turboshake.specs.Published.{turboshake_rounds}
use Rattle.turboshake.specs.Transcript.{message_limit, output_limit}
use Rattle.kangarootwelve.specs.Published.{chunk}
use Rattle.kangarootwelve.specs.Transcript.{customization_limit, rules}
use Rattle.kangarootwelve.specs.Tree.{Tree, absorb_tree, finish_tree, finalize_tree}
use Rattle.kangarootwelve.specs.Count.{open_kt, closed_kt, count_due}
use Rattle.kangarootwelve.specs.Model.{Nodes, nodes_of, tree_at, final_count, leaf_count, final_due, leaf_due, reachable, machine, seen, held, Answer, answer_of, output_of}
use Rattle.kangarootwelve.specs.Inside.{Fits, tree_of, place_of, open_due, run_with}
use Rattle.kangarootwelve.specs.declared.Run.{Run}
use Rattle.kangarootwelve.specs.declared.Place.{Place}
use Rattle.kangarootwelve.specs.declared.Progress.{Progress}
use Rattle.kangarootwelve.proofs.Published.{chunk_pos}
use Rattle.kangarootwelve.proofs.Nodes.{fresh_is, position-le}
use Rattle.kangarootwelve.proofs.Tests.{most-fits}
use Rattle.kangarootwelve.proofs.Laws.{positions, due, customization-taken, customization_long, shape, count_due_lem, stays, first_is, second_is, third_is}

-- ---- positions and counts

pub position-suc : (r n : ℕ) → (n ≡ 0 → ⊥) → (n - 1) % r + 1 ≡ position_after r n
position-suc r zero h = absurd (h refl)
position-suc r (suc n) h = let e : suc n - 1 ≡ n = omega arith in rw (e, add-one)

pub index-suc : (r n : ℕ) → (n ≡ 0 → ⊥) → (n - 1) / r ≡ index_after r n
index-suc r zero h = absurd (h refl)
index-suc r (suc n) h = let e : suc n - 1 ≡ n = omega arith in rw e

index-le : (r n : ℕ) → index_after r n ≤ n
index-le r zero = zero-le
index-le r (suc n) = le_trans (div-le_self n r) (le-suc n)

-- ---- the calls

module _ (rate chaining : ℕ) (r : Run) where
  abbrev Test : Bool
  Test = reachable rate chaining r.node.position r.leaf.position r.phase r.absorbed r.customized r.squeezed r.permutations

  abbrev Passes : Bool → Type 0
  Passes t = Test ≡ t

  pub passes : (t : Bool) → Passes t → (machine rate chaining).reachable (seen r) ≡ t
  unfolding machine
  passes t e = e

  -- what a run has that 5 does not refuse
  pub record Passed : Type 0 where
    pub node_fits : r.node.position ≤ rate
    pub leaf-fits : r.leaf.position ≤ rate
    pub absorbed-fits : r.absorbed ≤ message_limit
    pub customized-fits : r.customized ≤ customization_limit
    pub squeezed-fits : r.squeezed ≤ output_limit

  pub fits : 0 < rate → Passes true → Passed
  unfolding machine rules
  fits pos e =
      let t : Shape (rules rate chaining) (machine rate chaining) positions (due rate chaining) (Fixed output_limit) (seen r) = shape rate chaining (seen r) e in
      by (eqb r.phase 1) t.positions_due t.absorbed-fits (most-fits r.phase r.customized t.customized-fits) t.squeezed-fits
    where
      n : ℕ
      n = r.absorbed + r.customized

      by : (b : Bool) → positions (seen r).state ≡ cond b (position_after rate r.squeezed ∷ 0 ∷ closed_kt rate chaining n r.customized r.squeezed ∷ []) (final_due rate chaining n ∷ leaf_due rate n ∷ open_kt rate chaining n ∷ [])
          → r.absorbed ≤ message_limit → r.customized ≤ customization_limit → r.squeezed ≤ cond b output_limit 0 → Passed
      by true e a m k = record {
        node_fits = rw (first_is e) (position-le rate pos r.squeezed);
        leaf-fits = rw (second_is e) zero-le;
        absorbed-fits = a;
        customized-fits = m;
        squeezed-fits = k;
      }
      by false e a m k = record {
        node_fits = rw (first_is e) (position-le rate pos (final_count chaining (index_after chunk n) (position_after chunk n)));
        leaf-fits = rw (second_is e) (position-le rate pos (leaf_count (index_after chunk n) (position_after chunk n)));
        absorbed-fits = a;
        customized-fits = m;
        squeezed-fits = omega arith;
      }

  -- before the message's end no customization byte was absorbed
  pub not-customized : Passes true → r.phase ≡ 0 → r.customized ≡ 0
  unfolding machine
  not-customized e o = let l : r.customized ≤ 0 = rw o at (shape rate chaining (seen r) e).customized-fits in omega (arith, l)

  pub refused_is : (c : Call (List ℕ)) (n : ℕ) → run_status (rules rate chaining) (machine rate chaining) (seen r) c ≡ suc n → record { status = suc n; run = r } ≡ answer_of rate chaining r c
  unfolding answer_of
  refused_is c n e = rw (perform-refused (rules rate chaining) (machine rate chaining) (seen r) c n e)

  pub done_is : (c : Call (List ℕ)) → run_status (rules rate chaining) (machine rate chaining) (seen r) c ≡ 0
      → record { status = 0; run = held (worked (rules rate chaining) (machine rate chaining) (seen r) c) } ≡ answer_of rate chaining r c
  unfolding answer_of
  done_is c e = rw (perform_done (rules rate chaining) (machine rate chaining) (seen r) c e)

  -- the number that the totals tell is the one that the answer has
  abbrev numbered : ℕ → runs.Run Nodes → runs.Run Nodes
  numbered n w = record { state = record { final = w.state.final; leaf = w.state.leaf; customized = w.state.customized; permutations = n }; phase = w.phase; absorbed = w.absorbed; squeezed = w.squeezed }

  done_counted : 0 < rate → Passes true → (c : Call (List ℕ)) → run_status (rules rate chaining) (machine rate chaining) (seen r) c ≡ 0
      → (w : runs.Run Nodes) → w ≡ worked (rules rate chaining) (machine rate chaining) (seen r) c
      → (n : ℕ) → n ≡ count_due rate chaining w.phase (w.absorbed + w.state.customized) w.state.customized w.squeezed
      → record { status = 0; run = held (numbered n w) } ≡ answer_of rate chaining r c
  unfolding machine
  done_counted pos t c e w w-is n n-is =
      let h = passes true t in
      let left = stays rate chaining pos (seen r) c h (rw h at e) in
      let due-is = (shape rate chaining w (rw w-is left)).positions_due in
      ap (λ (m : ℕ). record { status = 0; run = held (numbered m w) }) (n-is ∙ sym (count_due_lem rate chaining w due-is))
      ∙ ap (λ (v : runs.Run Nodes). record { status = 0; run = held v }) w-is
      ∙ done_is c e

  pub refused_other : (c : Call (List ℕ)) (n : ℕ) → (n ≡ 0 → ⊥) → run_status (rules rate chaining) (machine rate chaining) (seen r) c ≡ n → record { status = n; run = r } ≡ answer_of rate chaining r c
  refused_other c zero h e = absurd (h refl)
  refused_other c (suc n) h e = refused_is c n e

  -- a call that an open run takes, on a run that is none: 3 on a closed one that 5 does not refuse, else 5
  pub not_open_is : (c : Call (List ℕ)) (n : ℕ) → n ≡ cond (cond (eqb r.phase 1) Test false) 3 5 → cond (eqb r.phase 1) false Test ≡ false
      → (Passes true → r.phase ≡ 1 → run_status (rules rate chaining) (machine rate chaining) (seen r) c ≡ 3) → record { status = n; run = r } ≡ answer_of rate chaining r c
  not_open_is c n e g three = by (eqb r.phase 1) Test refl refl e g
    where
      by : (b v : Bool) → eqb r.phase 1 ≡ b → Passes v → n ≡ cond (cond b v false) 3 5 → cond b false v ≡ false → record { status = n; run = r } ≡ answer_of rate chaining r c
      by true true h t w f = ap (λ (m : ℕ). record { status = m; run = r }) w ∙ refused_is c 2 (three t (eqb-true _ _ h))
      by true false h t w f = ap (λ (m : ℕ). record { status = m; run = r }) w ∙ refused_is c 4 (answers.status_5 (rules rate chaining) (machine rate chaining) (seen r) c (passes false t))
      by false v h t w f = ap (λ (m : ℕ). record { status = m; run = r }) w ∙ refused_is c 4 (answers.status_5 (rules rate chaining) (machine rate chaining) (seen r) c (passes false (t ∙ f)))

  -- the squeeze, which a closed run takes, on a run that is none
  pub not_closed_is : (k n : ℕ) → n ≡ cond (cond (eqb r.phase 1) false Test) 3 5 → cond (eqb r.phase 1) Test false ≡ false
      → (run_status (rules rate chaining) (machine rate chaining) (seen r) (squeeze k) ≡ n) × (n ≡ 0 → ⊥)
  not_closed_is k n e g = by (eqb r.phase 1) Test refl refl e g
    where
      by : (b v : Bool) → eqb r.phase 1 ≡ b → Passes v → n ≡ cond (cond b false v) 3 5 → cond b v false ≡ false
          → (run_status (rules rate chaining) (machine rate chaining) (seen r) (squeeze k) ≡ n) × (n ≡ 0 → ⊥)
      by true v h t w f = (answers.status_5 (rules rate chaining) (machine rate chaining) (seen r) (squeeze k) (passes false (t ∙ f)) ∙ sym w, λ z. omega (arith, w, z))
      by false true h t w f =
          (answers.squeeze_3 (rules rate chaining) (machine rate chaining) (seen r) (passes true t) k (λ q. subst T (sym (eq-eqb r.phase 1 q) ∙ h) tt) ∙ sym w, λ z. omega (arith, w, z))
      by false false h t w f = (answers.status_5 (rules rate chaining) (machine rate chaining) (seen r) (squeeze k) (passes false t) ∙ sym w, λ z. omega (arith, w, z))

  -- what an open run that 5 does not refuse has
  passed_due : Passes true → (r.phase ≡ 1 → ⊥)
      → (r.node.position ≡ final_due rate chaining (r.absorbed + r.customized)) × (r.leaf.position ≡ leaf_due rate (r.absorbed + r.customized)) × (r.permutations ≡ open_kt rate chaining (r.absorbed + r.customized))
  unfolding machine
  passed_due t c =
      let d = rw (ne_eqb r.phase 1 c) at (shape rate chaining (seen r) (passes true t)).positions_due in
      (first_is d, second_is d, third_is d)

  pub untouched : (out : List ℕ) (n : ℕ) → run_status (rules rate chaining) (machine rate chaining) (seen r) (squeeze (length out)) ≡ suc n → out ≡ output_of rate chaining r out
  unfolding output_of
  untouched out n e = rw (perform-refused (rules rate chaining) (machine rate chaining) (seen r) (squeeze (length out)) n e)

  pub untouched_other : (out : List ℕ) (n : ℕ) → (n ≡ 0 → ⊥) → run_status (rules rate chaining) (machine rate chaining) (seen r) (squeeze (length out)) ≡ n → out ≡ output_of rate chaining r out
  untouched_other out zero h e = absurd (h refl)
  untouched_other out (suc n) h e = untouched out n e

  pub written : (out : List ℕ) → run_status (rules rate chaining) (machine rate chaining) (seen r) (squeeze (length out)) ≡ 0
      → bytes_out (rules rate chaining) (machine rate chaining) (seen r) (squeeze (length out)) ≡ output_of rate chaining r out
  unfolding output_of
  written out e = rw (perform_done (rules rate chaining) (machine rate chaining) (seen r) (squeeze (length out)) e)

-- C is taken up to its limit
pub customization_4 : (rate chaining : ℕ) (c : List ℕ) → customization_limit < length c → (rules rate chaining).argument c ≡ 4
unfolding rules
customization_4 rate chaining c h = customization_long (length c) h

pub customization_0 : (rate chaining : ℕ) (c : List ℕ) → length c ≤ customization_limit → (rules rate chaining).argument c ≡ 0
unfolding rules
customization_0 rate chaining c h = customization-taken (length c) h

-- ---- what the tree and the sponge leave is the answer; p and q are what a run holds beside its lanes, before and after

-- the two tests of the code, passed
pub open_passed : (h : ℕ) (v : Bool) → cond (eqb h 1) false v ≡ true → (h ≡ 1 → ⊥) × (v ≡ true)
open_passed h v e = by (eqb h 1) refl e
  where
    by : (b : Bool) → eqb h 1 ≡ b → cond b false v ≡ true → (h ≡ 1 → ⊥) × (v ≡ true)
    by true p e = absurd (subst T (sym e) tt)
    by false p e = (λ q. subst T (sym (eq-eqb h 1 q) ∙ p) tt, e)

pub closed_passed : (h : ℕ) (v : Bool) → cond (eqb h 1) v false ≡ true → (h ≡ 1) × (v ≡ true)
closed_passed h v e = by (eqb h 1) refl e
  where
    by : (b : Bool) → eqb h 1 ≡ b → cond b v false ≡ true → (h ≡ 1) × (v ≡ true)
    by true p e = (eqb-true h 1 p, e)
    by false p e = absurd (subst T (sym e) tt)

-- the number due of an open run, and of a closed one
pub open_count_lem : (rate chaining h n c j : ℕ) → (h ≡ 1 → ⊥) → open_kt rate chaining n ≡ count_due rate chaining h n c j
open_count_lem rate chaining h n c j z = rw (ne_eqb h 1 z)

pub closed_count_lem : (rate chaining h n c j : ℕ) → h ≡ 1 → closed_kt rate chaining n c j ≡ count_due rate chaining h n c j
closed_count_lem rate chaining h n c j z = rw (eq-eqb h 1 z)

module _ (rate chaining : ℕ) (node leaf : List ℕ) (p : Progress) where
  -- what the count after a call asks
  pub due_told : Passes rate chaining (run_with node leaf p) true → (p.phase ≡ 1 → ⊥) → open_due rate chaining p ≡ true
  due_told t c =
      let d = passed_due rate chaining (run_with node leaf p) t c in
      rw (eq-eqb p.node (final_due rate chaining (p.absorbed + p.customized)) d.0, eq-eqb p.leaf (leaf_due rate (p.absorbed + p.customized)) d.1, eq-eqb p.permutations (open_kt rate chaining (p.absorbed + p.customized)) d.2)

  abbrev nodes : Nodes
  nodes = record { final = record { value = node; position = p.node }; leaf = record { value = leaf; position = p.leaf }; customized = p.customized; permutations = p.permutations }

  pub place-fits : p.node ≤ rate → p.leaf ≤ rate → Fits rate (tree_of node leaf (place_of p))
  place-fits f l = record { final-fits = f; leaf-fits = l; position-fits = position-le chunk chunk_pos (p.absorbed + p.customized) }

  pub place-index : (place_of p).index ≤ p.absorbed + p.customized
  place-index = index-le chunk (p.absorbed + p.customized)

  -- before the message's end the next byte of S is the next of M
  message-place : p.customized ≡ 0 → tree_of node leaf (place_of p) ≡ tree_at p.absorbed nodes
  message-place z = ap (λ (n : ℕ). tree_at n nodes) (ap (λ (m : ℕ). p.absorbed + m) z ∙ add-zero p.absorbed)

  module _ (pos : 0 < rate) (t : Passes rate chaining (run_with node leaf p) true) where
    pub absorb-answer : (piece node' leaf' : List ℕ) (q : Place) (n : ℕ) → p.customized ≡ 0 → tree_of node' leaf' q ≡ absorb_tree rate chaining (tree_of node leaf (place_of p)) piece
        → n ≡ count_due rate chaining p.phase (p.absorbed + length piece + p.customized) p.customized p.squeezed
        → run_status (rules rate chaining) (machine rate chaining) (seen (run_with node leaf p)) (absorb piece) ≡ 0
        → record { status = 0; run = run_with node' leaf' (record { node = q.node; leaf = q.leaf; phase = p.phase; absorbed = p.absorbed + length piece; customized = p.customized; squeezed = p.squeezed; permutations = n }) }
        ≡ answer_of rate chaining (run_with node leaf p) (absorb piece)
    unfolding machine
    absorb-answer piece node' leaf' q n z e c g =
        ap (λ (t : At Tree). record { status = 0; run = held (record { state = nodes_of t.value p.customized n; phase = p.phase; absorbed = p.absorbed + length piece; squeezed = p.squeezed }) })
        (e ∙ ap (λ (t : At Tree). absorb_tree rate chaining t piece) (message-place z))
        ∙ done_counted rate chaining (run_with node leaf p) pos t (absorb piece) g (worked (rules rate chaining) (machine rate chaining) (seen (run_with node leaf p)) (absorb piece)) refl n c

    pub customize-answer : (piece node' leaf' : List ℕ) (q : Place) (n : ℕ) → tree_of node' leaf' q ≡ absorb_tree rate chaining (tree_of node leaf (place_of p)) piece
        → n ≡ count_due rate chaining 2 (p.absorbed + (p.customized + length piece)) (p.customized + length piece) p.squeezed
        → run_status (rules rate chaining) (machine rate chaining) (seen (run_with node leaf p)) (customize piece) ≡ 0
        → record { status = 0; run = run_with node' leaf' (record { node = q.node; leaf = q.leaf; phase = 2; absorbed = p.absorbed; customized = p.customized + length piece; squeezed = p.squeezed; permutations = n }) }
        ≡ answer_of rate chaining (run_with node leaf p) (customize piece)
    unfolding machine
    customize-answer piece node' leaf' q n e c g =
        ap (λ (t : At Tree). record { status = 0; run = held (record { state = nodes_of t.value (p.customized + length piece) n; phase = 2; absorbed = p.absorbed; squeezed = p.squeezed }) }) e
        ∙ done_counted rate chaining (run_with node leaf p) pos t (customize piece) g (worked (rules rate chaining) (machine rate chaining) (seen (run_with node leaf p)) (customize piece)) refl n c

    -- a run closed with m bytes of C: its final node is s, and its leaf is fresh
    closed_run : Sponge → Sponge → ℕ → Answer
    closed_run s l m = record {
      status = 0;
      run = held (record { state = record { final = s; leaf = l; customized = m; permutations = count_due rate chaining 1 (p.absorbed + m) m p.squeezed }; phase = 1; absorbed = p.absorbed; squeezed = p.squeezed });
    }

    closed_is : (node' : List ℕ) (s : Sponge) (m : ℕ) → record { value = node'; position = 0 } ≡ s
        → record { status = 0; run = run_with node' (replicate 25 0) (record { node = 0; leaf = 0; phase = 1; absorbed = p.absorbed; customized = m; squeezed = p.squeezed; permutations = count_due rate chaining 1 (p.absorbed + m) m p.squeezed }) }
        ≡ closed_run s fresh m
    unfolding closed_run
    closed_is node' s m e = ap (λ (s : Sponge). closed_run s (record { value = replicate 25 0; position = 0 }) m) e ∙ ap (λ (l : Sponge). closed_run s l m) fresh_is

    pub finalize-answer : (c node' : List ℕ) → p.customized ≡ 0 → record { value = node'; position = 0 } ≡ finalize_tree rate chaining (tree_of node leaf (place_of p)) c
        → run_status (rules rate chaining) (machine rate chaining) (seen (run_with node leaf p)) (finalize c) ≡ 0
        → record { status = 0; run = run_with node' (replicate 25 0) (record { node = 0; leaf = 0; phase = 1; absorbed = p.absorbed; customized = length c; squeezed = p.squeezed; permutations = count_due rate chaining 1 (p.absorbed + length c) (length c) p.squeezed }) }
        ≡ answer_of rate chaining (run_with node leaf p) (finalize c)
    unfolding machine closed_run
    finalize-answer c node' z e g =
        closed_is node' (finalize_tree rate chaining (tree_at p.absorbed nodes) c) (length c) (e ∙ ap (λ (t : At Tree). finalize_tree rate chaining t c) (message-place z))
        ∙ done_counted rate chaining (run_with node leaf p) pos t (finalize c) g (worked (rules rate chaining) (machine rate chaining) (seen (run_with node leaf p)) (finalize c)) refl (count_due rate chaining 1 (p.absorbed + length c) (length c) p.squeezed) refl

    pub finish-answer : (node' : List ℕ) → record { value = node'; position = 0 } ≡ finish_tree rate chaining (tree_of node leaf (place_of p)) p.customized
        → run_status (rules rate chaining) (machine rate chaining) (seen (run_with node leaf p)) finish ≡ 0
        → record { status = 0; run = run_with node' (replicate 25 0) (record { node = 0; leaf = 0; phase = 1; absorbed = p.absorbed; customized = p.customized; squeezed = p.squeezed; permutations = count_due rate chaining 1 (p.absorbed + p.customized) p.customized p.squeezed }) }
        ≡ answer_of rate chaining (run_with node leaf p) finish
    unfolding machine closed_run
    finish-answer node' e g =
        closed_is node' (finish_tree rate chaining (tree_at (p.absorbed + p.customized) nodes) p.customized) p.customized e
        ∙ done_counted rate chaining (run_with node leaf p) pos t finish g (worked (rules rate chaining) (machine rate chaining) (seen (run_with node leaf p)) finish) refl (count_due rate chaining 1 (p.absorbed + p.customized) p.customized p.squeezed) refl

  module _ (pos : 0 < rate) (most : rate ≤ 200) (f : p.node ≤ rate) where
    pub squeeze-answer : Passes rate chaining (run_with node leaf p) true → (k : ℕ) (o : Outcome) (n : ℕ) → o ≡ squeeze_call turboshake_rounds rate (record { value = node; position = p.node }) k
        → n ≡ count_due rate chaining p.phase (p.absorbed + p.customized) p.customized (p.squeezed + k)
        → run_status (rules rate chaining) (machine rate chaining) (seen (run_with node leaf p)) (squeeze k) ≡ 0
        → record { status = o.status; run = run_with o.state.value leaf (record { node = o.state.position; leaf = p.leaf; phase = p.phase; absorbed = p.absorbed; customized = p.customized; squeezed = p.squeezed + k; permutations = n }) }
        ≡ answer_of rate chaining (run_with node leaf p) (squeeze k)
    unfolding machine
    squeeze-answer t k o n e c g =
        ap (λ (u : Outcome). record { status = u.status; run = run_with u.state.value leaf (record { node = u.state.position; leaf = p.leaf; phase = p.phase; absorbed = p.absorbed; customized = p.customized; squeezed = p.squeezed + k; permutations = n }) })
        (e ∙ squeeze_done turboshake_rounds rate (record { value = node; position = p.node }) (fits-valid turboshake_rounds rate p.node refl f pos most) k)
        ∙ done_counted rate chaining (run_with node leaf p) pos t (squeeze k) g (worked (rules rate chaining) (machine rate chaining) (seen (run_with node leaf p)) (squeeze k)) refl n c

    pub squeeze-written : (out : List ℕ) → run_status (rules rate chaining) (machine rate chaining) (seen (run_with node leaf p)) (squeeze (length out)) ≡ 0
        → squeeze_output turboshake_rounds rate (record { value = node; position = p.node }) out ≡ output_of rate chaining (run_with node leaf p) out
    unfolding machine
    squeeze-written out g =
        valid-output turboshake_rounds rate (record { value = node; position = p.node }) (fits-valid turboshake_rounds rate p.node refl f pos most) out ∙ written rate chaining (run_with node leaf p) out g
