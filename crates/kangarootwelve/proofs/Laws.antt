-- KT's machine meets the laws of the law of joining, for every rate above 0 and every chaining length.
-- Assumes nothing.
use mathlib.Core.Path.{◌≡◌, refl, sym, ap, ◌∙◌}
use mathlib.Core.List.{List, [], ◌∷◌, ◌++◌}
use Prim.Native.Nat.{ℕ, zero, suc, ◌+◌, ◌≤◌, ◌<◌, zero-le}
use native.Mathlib.Nat.{zero-add, add-zero, add_assoc}
use native.Mathlib.Omega.{arith}
use lib.ListN.{length, length-append}
use borrow.Author.Tests.{leb-true}
use Rattle.keccak.specs.Permutation.{permuted}
use Rattle.sponge.specs.Waiting.{At, position_after}
use Rattle.sponge.specs.Model.{fresh, squeeze_bytes, after_bytes}
use Rattle.sponge.specs.Count.{Counted, counted, counted_from}
use Rattle.sponge.specs.Transcript.{Call, Call.absorb, Call.customize, Call.finalize, Call.finish, Call.squeeze, Phase, Phase.absorbing, Phase.customizing, Phase.squeezing, status_of}
use Rattle.sponge.specs.Runs.{worked, run_of}
use Rattle.sponge.proofs.Waiting.{steps-append}
use Rattle.sponge.proofs.Position.{After, after-steps, after-position}
use Rattle.sponge.proofs.Count.{after-counted, after_adds}
use Rattle.sponge.proofs.Published.{after-add, squeeze-add, length-squeeze}
use Rattle.sponge.proofs.Streaming.{cond-zero, Fits, Customizes, Laws}
use Rattle.sponge.proofs.Joining.{Stays}
use Rattle.sponge.proofs.Reachable.{Shape, Fixed}
use Rattle.turboshake.specs.Transcript.{message_limit, output_limit}
use Rattle.kangarootwelve.specs.Published.{chunk, length_encode, merged, kt}
use Rattle.kangarootwelve.specs.Transcript.{customization_limit, customization_status, rules}
use Rattle.kangarootwelve.specs.Tree.{Tree, put_byte, end_chunk, absorb_tree, close_tree, finish_tree, finalize_tree}
use Rattle.kangarootwelve.specs.Count.{count_absorbed, count_finished, count_finalized, open_kt, closed_kt}
use Rattle.kangarootwelve.specs.Model.{Nodes, nodes_of, tree_at, counted_tree_at, final_due, leaf_due, machine}
use Rattle.kangarootwelve.proofs.Published.{chunk_pos, index-put, close-position, squeeze-kt}
use Rattle.kangarootwelve.proofs.Numbered.{numbered_put, numbered_end, number_tree, number_finish, plain-tree, numbered_tree, Told, numbered_told, finish-told, squeezed-told}
use Rattle.kangarootwelve.proofs.CountedTree.{number_at, run-absorbed, run-finished, run_finalized, run-squeezed}
pub use Rattle.kangarootwelve.proofs.Due.{positions, due, first_is, second_is, third_is, customization-taken, customization_long, count_due_lem, shape, shaped}
use Rattle.kangarootwelve.proofs.Due.{triple}

abbrev pub fresh_nodes : Nodes
fresh_nodes = record { final = fresh; leaf = fresh; customized = 0; permutations = 0 }

module _ (rate chaining : ℕ) where
  -- ---- the chunk in hand and the position in it are told by the total

  abbrev Index : ℕ → ℕ → Tree → Type 0
  Index q o t = t.index ≡ q

  -- whatever the customization bytes m and the number k are
  tree-told : (n : ℕ) (s : Nodes) (p : List ℕ) (m k : ℕ) → absorb_tree rate chaining (tree_at n s) p ≡ tree_at (n + length p) (nodes_of (absorb_tree rate chaining (tree_at n s) p).value m k)
  tree-told n s p m k =
      let i : After chunk Index (n + length p) (absorb_tree rate chaining (tree_at n s) p) =
      after-steps (end_chunk rate chaining) (put_byte rate) chunk chunk_pos Index
      (λ q o b t h. index-put rate chaining t.index t.final t.leaf (b ∷ []) ∙ h) (λ q t h. ap suc h) n (tree_at n s) p (record { position_is = refl; holds = refl }) in
      λ j. record {
        value = record { final = (absorb_tree rate chaining (tree_at n s) p).value.final; leaf = (absorb_tree rate chaining (tree_at n s) p).value.leaf; index = i.holds j };
        position = i.position_is j;
      }

  -- and counted
  number_told : (n : ℕ) (s : Nodes) (p : List ℕ) (m : ℕ)
      → number_tree rate chaining (number_at n s) p ≡ number_at (n + length p) (nodes_of (absorb_tree rate chaining (tree_at n s) p).value m (number_tree rate chaining (number_at n s) p).value.1)
  number_told n s p m =
      let k : ℕ = (number_tree rate chaining (number_at n s) p).value.1 in
      numbered_tree rate chaining (number_at n s) p ∙ ap (λ (t : At Tree). counted_from t k) (tree-told n s p m k)

  -- the number after p and then q
  count_joins : (n : ℕ) (s : Nodes) (p q : List ℕ) (m : ℕ)
      → count_absorbed rate chaining (counted_tree_at n s) (p ++ q)
      ≡ count_absorbed rate chaining (counted_tree_at (n + length p) (nodes_of (absorb_tree rate chaining (tree_at n s) p).value m (count_absorbed rate chaining (counted_tree_at n s) p))) q
  count_joins n s p q m =
      let u : ℕ → Nodes = λ k. nodes_of (absorb_tree rate chaining (tree_at n s) p).value m k in
      run-absorbed rate chaining n s (p ++ q)
      ∙ ap (λ (t : At (Tree × ℕ)). t.value.1) (steps-append (numbered_end rate chaining) (numbered_put rate chaining) chunk (number_at n s) p q ∙ ap (λ (t : At (Tree × ℕ)). number_tree rate chaining t q) (number_told n s p m))
      ∙ ap (λ (k : ℕ). (number_tree rate chaining (number_at (n + length p) (u k)) q).value.1) (sym (run-absorbed rate chaining n s p))
      ∙ sym (run-absorbed rate chaining (n + length p) (u (count_absorbed rate chaining (counted_tree_at n s) p)) q)

  module _ (pos : 0 < rate) where
    -- ---- what is squeezed is the published output

    kt-output : (f c : List ℕ) (n : ℕ)
        → squeeze_bytes permuted rate n (finalize_tree rate chaining (tree_at (length f) ((machine rate chaining).absorb 0 (machine rate chaining).fresh f)) c) ≡ kt rate chaining f c n
    unfolding merged machine
    kt-output f c n =
        let s : Nodes = fresh_nodes in
        let k : ℕ = count_absorbed rate chaining (counted_tree_at 0 s) f in
        let whole : absorb_tree rate chaining (tree_at 0 s) (f ++ c ++ length_encode (length c))
        ≡ absorb_tree rate chaining (absorb_tree rate chaining (tree_at (length f) (nodes_of (absorb_tree rate chaining (tree_at 0 s) f).value 0 k)) c) (length_encode (length c)) =
        rw (
          steps-append (end_chunk rate chaining) (put_byte rate) chunk (tree_at 0 s) (f ++ c),
          steps-append (end_chunk rate chaining) (put_byte rate) chunk (tree_at 0 s) f,
          tree-told 0 s f 0 k,
          zero-add,
        ) in
        ap (λ (t : At Tree). squeeze_bytes permuted rate n (close_tree rate chaining t.value)) (sym whole) ∙ squeeze-kt rate chaining pos f c n

    -- ---- the two positions and the number after each call

    -- before the close, after n bytes of S
    abbrev FourOpen : ℕ → Nodes → Type 0
    FourOpen n s = positions s ≡ final_due rate chaining n ∷ leaf_due rate n ∷ open_kt rate chaining n ∷ []

    pub fresh_due : FourOpen 0 fresh_nodes
    unfolding open_kt
    fresh_due = refl

    pub told_at : (n : ℕ) (s : Nodes) → FourOpen n s → After chunk (Told rate chaining pos) n (number_at n s)
    unfolding open_kt
    told_at n s e = record { position_is = refl; holds = record { places = record { index_is = refl; final_is = first_is e; leaf_is = second_is e }; count_is = third_is e } }

    pub absorb_due : (n : ℕ) (s : Nodes) (p : List ℕ) (m : ℕ) → FourOpen n s
        → FourOpen (n + length p) (nodes_of (absorb_tree rate chaining (tree_at n s) p).value m (count_absorbed rate chaining (counted_tree_at n s) p))
    unfolding open_kt
    absorb_due n s p m e =
        let h = (numbered_told rate chaining pos n (number_at n s) p (told_at n s e)).holds in
        let w = sym (plain-tree rate chaining (number_at n s) p) in
        triple (ap (λ (t : At Tree). t.value.final.position) w ∙ h.places.final_is) (ap (λ (t : At Tree). t.value.leaf.position) w ∙ h.places.leaf_is) (run-absorbed rate chaining n s p ∙ h.count_is)

    finish-position : (t : At Tree) (n : ℕ) → (finish_tree rate chaining t n).position ≡ 0
    finish-position t n =
        let u : Tree = (absorb_tree rate chaining t (length_encode n)).value in
        close-position rate chaining u.index u.final u.leaf

    finish_due : (n : ℕ) (s : Nodes) (m : ℕ) → FourOpen n s → count_finished rate chaining (counted_tree_at n s) m ≡ closed_kt rate chaining n m 0
    finish_due n s m e = run-finished rate chaining n s m ∙ finish-told rate chaining pos n m (number_at n s) (told_at n s e)

    finalize_due : (n : ℕ) (s : Nodes) (c : List ℕ) → FourOpen n s → count_finalized rate chaining (counted_tree_at n s) c ≡ closed_kt rate chaining (n + length c) (length c) 0
    finalize_due n s c e = run_finalized rate chaining n s c ∙ finish-told rate chaining pos (n + length c) (length c) (number_tree rate chaining (number_at n s) c) (numbered_told rate chaining pos n (number_at n s) c (told_at n s e))

    after_due : (n m j k : ℕ) (s : Nodes) → s.final.position ≡ position_after rate j → s.permutations ≡ closed_kt rate chaining n m j
        → (after_bytes (counted permuted) rate k (counted_from s.final s.permutations)).value.1 ≡ closed_kt rate chaining n m (j + k)
    after_due n m j k s e f = run-squeezed rate chaining k s ∙ rw (e, f) (squeezed-told rate chaining pos n m j k)

    -- ---- the machine's laws

    reaches : (f : List ℕ) (h : Phase (List ℕ)) (n : ℕ) → Fits (rules rate chaining) (record { absorbed = f; phase = h; squeezed = n })
        → Shape (rules rate chaining) (machine rate chaining) positions (due rate chaining) (Fixed output_limit) (run_of (rules rate chaining) (machine rate chaining) (record { absorbed = f; phase = h; squeezed = n }))
    unfolding rules machine customization_status
    reaches f absorbing n t =
        let g = rw zero-add at (absorb_due 0 fresh_nodes f 0 fresh_due) in
        record {
          phase-fits = zero-le;
          absorbed-fits = t.input_fits;
          customized-fits = zero-le;
          limit_due = refl;
          squeezed-fits = t.output-fits;
          positions_due = rw (add-zero (length f)) g;
        }
    reaches f (customizing c) n t =
        let g = rw zero-add at (absorb_due 0 fresh_nodes f 0 fresh_due) in
        let d = absorb_due (length f) ((machine rate chaining).absorb 0 fresh_nodes f) c (length c) g in
        record {
          phase-fits = omega arith;
          absorbed-fits = t.input_fits;
          customized-fits = rw (zero-add (length c)) t.phase-taken;
          limit_due = refl;
          squeezed-fits = t.output-fits;
          positions_due = rw (add-zero (length f), zero-add (length c)) d;
        }
    reaches f (squeezing c) n t =
        let g = rw zero-add at (absorb_due 0 fresh_nodes f 0 fresh_due) in
        let s : Nodes = (machine rate chaining).absorb 0 fresh_nodes f in
        let u : At Tree = absorb_tree rate chaining (tree_at (length f) s) c in
        record {
          phase-fits = omega arith;
          absorbed-fits = t.input_fits;
          customized-fits = leb-true _ _ (cond-zero _ _ t.phase-taken);
          limit_due = refl;
          squeezed-fits = t.output-fits;
          positions_due =
              triple (after-position permuted rate pos 0 (finish_tree rate chaining u (length c)) n (finish-position u (length c)) ∙ ap (position_after rate) (zero-add n)) refl
              (after_due (length f + length c) (length c) 0 n ((machine rate chaining).finalize (length f) s c) (finish-position u (length c)) (finalize_due (length f) s c g)
              ∙ ap (closed_kt rate chaining (length f + length c) (length c)) (zero-add n));
        }

    absorb-joins : (n : ℕ) (s : Nodes) (p q : List ℕ) → (machine rate chaining).absorb n s (p ++ q) ≡ (machine rate chaining).absorb (n + length p) ((machine rate chaining).absorb n s p) q
    unfolding machine
    absorb-joins n s p q =
        let k : ℕ = count_absorbed rate chaining (counted_tree_at n s) p in
        let tree = steps-append (end_chunk rate chaining) (put_byte rate) chunk (tree_at n s) p q ∙ ap (λ (t : At Tree). absorb_tree rate chaining t q) (tree-told n s p s.customized k) in
        λ i. nodes_of (tree i).value s.customized (count_joins n s p q s.customized i)

    customize-joins : (n : ℕ) (s : Nodes) (p q : List ℕ) → (machine rate chaining).customize n s (p ++ q) ≡ (machine rate chaining).customize n ((machine rate chaining).customize n s p) q
    unfolding machine
    customize-joins n s p q =
        let m : ℕ = s.customized in
        let k : ℕ = count_absorbed rate chaining (counted_tree_at (n + m) s) p in
        let u : Nodes = nodes_of (absorb_tree rate chaining (tree_at (n + m) s) p).value (m + length p) k in
        let tree : absorb_tree rate chaining (tree_at (n + m) s) (p ++ q) ≡ absorb_tree rate chaining (tree_at (n + (m + length p)) u) q =
        steps-append (end_chunk rate chaining) (put_byte rate) chunk (tree_at (n + m) s) p q
        ∙ ap (λ (t : At Tree). absorb_tree rate chaining t q) (tree-told (n + m) s p (m + length p) k)
        ∙ ap (λ (j : ℕ). absorb_tree rate chaining (tree_at j u) q) (add_assoc n m (length p)) in
        let counts : count_absorbed rate chaining (counted_tree_at (n + m) s) (p ++ q) ≡ count_absorbed rate chaining (counted_tree_at (n + (m + length p)) u) q =
        count_joins (n + m) s p q (m + length p) ∙ ap (λ (j : ℕ). count_absorbed rate chaining (counted_tree_at j u) q) (add_assoc n m (length p)) in
        let total : m + length (p ++ q) ≡ m + length p + length q = rw (length-append p q) (sym (add_assoc m (length p) (length q))) in
        λ i. nodes_of (tree i).value (total i) (counts i)

    -- both closes leave the same
    finish_finalizes : (n : ℕ) (s : Nodes) (c : List ℕ) → s.customized ≡ 0 → (machine rate chaining).finish n ((machine rate chaining).customize n s c) ≡ (machine rate chaining).finalize n s c
    unfolding machine
    finish_finalizes n s c z =
        let u : ℕ → Nodes = λ j. nodes_of (absorb_tree rate chaining (tree_at n s) c).value (length c) j in
        let k : ℕ = count_absorbed rate chaining (counted_tree_at n s) c in
        let tree = sym (tree-told n s c (length c) k) in
        let count : count_finished rate chaining (counted_tree_at (n + length c) (u k)) (length c) ≡ count_finalized rate chaining (counted_tree_at n s) c =
        run-finished rate chaining (n + length c) (u k) (length c)
        ∙ ap (λ (j : ℕ). number_finish rate chaining (number_at (n + length c) (u j)) (length c)) (run-absorbed rate chaining n s c)
        ∙ ap (λ (t : At (Tree × ℕ)). number_finish rate chaining t (length c)) (sym (number_told n s c (length c)))
        ∙ sym (run_finalized rate chaining n s c) in
        rw (z, zero-add (length c), add-zero n)
        (λ i. record { final = finish_tree rate chaining (tree i) (length c); leaf = fresh; customized = length c; permutations = count i })

    kt_customizes : Customizes (rules rate chaining) (machine rate chaining) customization_limit (λ c. c)
    unfolding rules machine customization_status
    kt_customizes = record {
      customize-nothing = λ n s i. nodes_of (tree_at (n + s.customized) s).value (add-zero s.customized i) (add-zero s.permutations i);
      customize-append = customize-joins;
      customized_grows = λ n s p. refl;
      finish-finalize = finish_finalizes;
      argument-taken = λ c l. customization-taken (length c) l;
    }

    after-joins : (m n : ℕ) (s : Nodes) → (machine rate chaining).after (m + n) s ≡ (machine rate chaining).after n ((machine rate chaining).after m s)
    unfolding machine
    after-joins m n s =
        let t : Counted = counted_from s.final s.permutations in
        let kept : after_bytes (counted permuted) rate m t ≡ counted_from (after_bytes permuted rate m s.final) (after_bytes (counted permuted) rate m t).value.1 =
        after-counted permuted rate m s.final s.permutations ∙ ap (counted_from (after_bytes permuted rate m s.final)) (sym (run-squeezed rate chaining m s)) in
        let count = ap (λ (u : Counted). u.value.1) (after_adds (counted permuted) rate m n t ∙ ap (after_bytes (counted permuted) rate n) kept) in
        let bytes = after-add permuted rate pos m n s.final in
        λ i. record { final = bytes i; leaf = s.leaf; customized = s.customized; permutations = count i }

    pub laws : Laws (rules rate chaining) (machine rate chaining)
    unfolding rules machine customization_status
    laws = record {
      absorb-nothing = λ n s i. nodes_of (tree_at n s).value s.customized (add-zero s.permutations i);
      absorb-append = absorb-joins;
      customized-fresh = refl;
      customized-absorb = λ n s p. refl;
      customized-after = λ n s. refl;
      limit-absorb = λ n s p. refl;
      limit-customize = λ n s p. refl;
      limit-finalize = λ n s a. refl;
      limit-after = λ n s. refl;
      customizes = kt_customizes;
      after-zero = λ s. refl;
      after-add = after-joins;
      squeeze-add = λ m n s. squeeze-add permuted rate pos m n s.final;
      squeeze-length = λ n s. length-squeeze permuted rate pos n s.final;
      squeeze_output_lem = kt-output;
      run-reachable = λ t h. shaped rate chaining (run_of (rules rate chaining) (machine rate chaining) t) (reaches t.absorbed t.phase t.squeezed h);
    }

    -- ---- a run that 5 does not refuse stays one

    -- a customization piece in either phase that takes it
    customize_stays : (s : Nodes) (h n k : ℕ) (p : List ℕ) → n ≤ message_limit → k ≤ 0 → s.customized + length p ≤ customization_limit → FourOpen (n + s.customized) s
        → Shape (rules rate chaining) (machine rate chaining) positions (due rate chaining) (Fixed output_limit) (worked (rules rate chaining) (machine rate chaining) (record { state = s; phase = h; absorbed = n; squeezed = k }) (customize p))
    unfolding rules machine
    customize_stays s h n k p a q m e = record {
      phase-fits = omega arith;
      absorbed-fits = a;
      customized-fits = m;
      limit_due = refl;
      squeezed-fits = q;
      positions_due = rw (← add_assoc n s.customized (length p)) (absorb_due (n + s.customized) s p (s.customized + length p) e);
    }

    stays_by : (s : Nodes) (h n k : ℕ) (c : Call (List ℕ)) → Shape (rules rate chaining) (machine rate chaining) positions (due rate chaining) (Fixed output_limit) (record { state = s; phase = h; absorbed = n; squeezed = k })
        → status_of (rules rate chaining) h n s.customized k output_limit c ≡ 0
        → Shape (rules rate chaining) (machine rate chaining) positions (due rate chaining) (Fixed output_limit) (worked (rules rate chaining) (machine rate chaining) (record { state = s; phase = h; absorbed = n; squeezed = k }) c)
    unfolding rules machine customization_status
    stays_by s zero n k (absorb p) t e =
        let z : s.customized ≡ 0 = omega (arith, t.customized-fits) in
        let g : FourOpen n s = rw (z, add-zero n) at t.positions_due in
        record {
          phase-fits = zero-le;
          absorbed-fits = leb-true _ _ (cond-zero _ _ e);
          customized-fits = t.customized-fits;
          limit_due = refl;
          squeezed-fits = t.squeezed-fits;
          positions_due = rw (z, add-zero (n + length p)) (absorb_due n s p 0 g);
        }
    stays_by s zero n k (customize p) t e = customize_stays s 0 n k p t.absorbed-fits t.squeezed-fits (leb-true _ _ (cond-zero _ _ e)) t.positions_due
    stays_by s zero n k (finalize c) t e =
        let z : k ≡ 0 = omega (arith, t.squeezed-fits) in
        let y : s.customized ≡ 0 = omega (arith, t.customized-fits) in
        let g : FourOpen n s = rw (y, add-zero n) at t.positions_due in
        record {
          phase-fits = omega arith;
          absorbed-fits = t.absorbed-fits;
          customized-fits = leb-true _ _ (cond-zero _ _ e);
          limit_due = refl;
          squeezed-fits = rw z zero-le;
          positions_due = rw z (triple (finish-position (absorb_tree rate chaining (tree_at n s) c) (length c)) refl (finalize_due n s c g));
        }
    stays_by s zero n k finish t e = absurd (omega arith)
    stays_by s zero n k (squeeze j) t e = absurd (omega arith)
    stays_by s (suc zero) n k (absorb p) t e = absurd (omega arith)
    stays_by s (suc zero) n k (customize p) t e = absurd (omega arith)
    stays_by s (suc zero) n k (finalize c) t e = absurd (omega arith)
    stays_by s (suc zero) n k finish t e = absurd (omega arith)
    stays_by s (suc zero) n k (squeeze j) t e = record {
      phase-fits = t.phase-fits;
      absorbed-fits = t.absorbed-fits;
      customized-fits = t.customized-fits;
      limit_due = refl;
      squeezed-fits = leb-true _ _ (cond-zero _ _ e);
      positions_due =
          triple (after-position permuted rate pos k s.final j (first_is t.positions_due)) (second_is t.positions_due)
          (after_due (n + s.customized) s.customized k j s (first_is t.positions_due) (third_is t.positions_due));
    }
    stays_by s (suc (suc zero)) n k (absorb p) t e = absurd (omega arith)
    stays_by s (suc (suc zero)) n k (customize p) t e = customize_stays s 2 n k p t.absorbed-fits t.squeezed-fits (leb-true _ _ (cond-zero _ _ e)) t.positions_due
    stays_by s (suc (suc zero)) n k (finalize c) t e = absurd (omega arith)
    stays_by s (suc (suc zero)) n k finish t e =
        let z : k ≡ 0 = omega (arith, t.squeezed-fits) in
        record {
          phase-fits = omega arith;
          absorbed-fits = t.absorbed-fits;
          customized-fits = t.customized-fits;
          limit_due = refl;
          squeezed-fits = rw z zero-le;
          positions_due = rw z (triple (finish-position (tree_at (n + s.customized) s) s.customized) refl (finish_due (n + s.customized) s s.customized t.positions_due));
        }
    stays_by s (suc (suc zero)) n k (squeeze j) t e = absurd (omega arith)
    stays_by s (suc (suc (suc h))) n k c t e = absurd (let l = t.phase-fits in omega arith)

    pub stays : Stays (rules rate chaining) (machine rate chaining)
    unfolding machine
    stays r c h e = shaped rate chaining (worked (rules rate chaining) (machine rate chaining) r c) (stays_by r.state r.phase r.absorbed r.squeezed c (shape rate chaining r h) e)
