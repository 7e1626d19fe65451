-- A message feed, by either engine: its status by cases, what its tests leave to the tree, and that what the tree leaves is the answer.
-- Assumes nothing.
use mathlib.Core.Path.{◌≡◌, refl, sym, ap, ◌∙◌}
use mathlib.Core.Bool.{Bool, true, false, cond}
use mathlib.Core.List.{List, []}
use Prim.Native.Nat.{ℕ, ◌+◌, ◌^◌, ◌≤◌, ◌<◌}
use native.Mathlib.Omega.{arith}
use borrow.Author.Tests.{eq-eqb, ne_eqb, eqb-true, le-leb, lt-leb, leb-true}
use lib.Dec.{eqb, leb}
use lib.ListN.{length}
use Rattle.sponge.specs.Transcript.{Call.absorb}
use Rattle.sponge.specs.Runs.{run_status}
use Rattle.turboshake.specs.Transcript.{message_limit}
use Rattle.kangarootwelve.specs.Transcript.{customization_limit, rules}
use Rattle.kangarootwelve.specs.Tree.{absorb_tree}
use Rattle.kangarootwelve.specs.Count.{open_kt}
use Rattle.kangarootwelve.specs.Model.{machine, seen, answer_of, reply_of, answer_abreast}
use Rattle.kangarootwelve.specs.Inside.{Fits, tree_of, place_of, reached_at, open_due, feed_status, run_with, answered}
use Rattle.kangarootwelve.specs.declared.Run.{Run}
use Rattle.kangarootwelve.specs.declared.Place.{Place}
use Rattle.kangarootwelve.specs.declared.Progress.{Progress}
use Rattle.kangarootwelve.specs.declared.Moved.{Moved}
use Rattle.kangarootwelve.proofs.Cases.{Passed, fits, not-customized, refused_other, open_count_lem, due_told, place-fits, place-index, absorb-answer}

-- ---- the status

module _ (rate chaining : ℕ) (p : Progress) (n : ℕ) where
  -- on a run that is not open: 3 on a closed one that 5 does not refuse, else 5
  pub feed_not_open : (s : ℕ) → s ≡ cond (cond (eqb p.phase 1) (reached_at rate chaining p) false) 3 5 → cond (eqb p.phase 1) false (reached_at rate chaining p) ≡ false → s ≡ feed_status rate chaining p n
  unfolding feed_status
  feed_not_open s e g = by (eqb p.phase 1) (reached_at rate chaining p) refl refl e g
    where
      by : (b v : Bool) → eqb p.phase 1 ≡ b → reached_at rate chaining p ≡ v → s ≡ cond (cond b v false) 3 5 → cond b false v ≡ false
          → s ≡ cond v (cond (eqb p.phase 0) (cond (leb (p.absorbed + n) message_limit) 0 2) 3) 5
      by true true h t w f = w ∙ rw (eqb-true p.phase 1 h)
      by true false h t w f = w
      by false v h t w f = w ∙ rw f

  module _ (t : reached_at rate chaining p ≡ true) where
    pub feed_3 : (p.phase ≡ 0 → ⊥) → 3 ≡ feed_status rate chaining p n
    unfolding feed_status
    feed_3 h = rw (t, ne_eqb p.phase 0 h)

    pub feed_2 : p.phase ≡ 0 → message_limit < p.absorbed + n → 2 ≡ feed_status rate chaining p n
    unfolding feed_status
    feed_2 h l = rw (t, eq-eqb p.phase 0 h, lt-leb (p.absorbed + n) message_limit l)

    pub feed_0 : p.phase ≡ 0 → p.absorbed + n ≤ message_limit → 0 ≡ feed_status rate chaining p n
    unfolding feed_status
    feed_0 h l = rw (t, eq-eqb p.phase 0 h, le-leb (p.absorbed + n) message_limit l)

  -- what a feed that is done had
  pub record Taken : Type 0 where
    pub reached : reached_at rate chaining p ≡ true
    pub message : p.phase ≡ 0
    pub fed : p.absorbed + n ≤ message_limit

  pub feed_taken : feed_status rate chaining p n ≡ 0 → Taken
  unfolding feed_status
  feed_taken e = by (reached_at rate chaining p) (eqb p.phase 0) (leb (p.absorbed + n) message_limit) refl refl refl e
    where
      by : (b v w : Bool) → reached_at rate chaining p ≡ b → eqb p.phase 0 ≡ v → leb (p.absorbed + n) message_limit ≡ w → ◌≡◌ {A = ℕ} (cond b (cond v (cond w 0 2) 3) 5) 0 → Taken
      by true true true x y z e = record { reached = x; message = eqb-true p.phase 0 y; fed = leb-true _ _ z }
      by true true false x y z e = absurd (omega arith)
      by true false w x y z e = absurd (omega arith)
      by false v w x y z e = absurd (omega arith)

-- a run that 5 does not refuse
pub most-absorbed : (rate chaining : ℕ) (p : Progress) → 0 < rate → reached_at rate chaining p ≡ true → p.absorbed ≤ message_limit
most-absorbed rate chaining p pos t = (fits rate chaining (run_with [] [] p) pos t).absorbed-fits

-- ---- the call

module _ (rate chaining : ℕ) (pos : 0 < rate) (node leaf : List ℕ) (p : Progress) (piece : List ℕ) where
  status_is : run_status (rules rate chaining) (machine rate chaining) (seen (run_with node leaf p)) (absorb piece) ≡ feed_status rate chaining p (length piece)
  unfolding rules machine feed_status
  status_is = refl

  pub feed_refused : (s : ℕ) (m : Moved) → s ≡ feed_status rate chaining p (length piece) → (s ≡ 0 → ⊥) → m ≡ record { at = p; status = s }
      → answered m node leaf ≡ answer_of rate chaining (run_with node leaf p) (absorb piece)
  feed_refused s m e h r =
      ap (λ (x : Moved). answered x node leaf) r ∙ refused_other rate chaining (run_with node leaf p) (absorb piece) s h (status_is ∙ sym e)

  -- what the tree and the count are asked
  pub record Ready : Type 0 where
    pub totals_fit : p.absorbed + p.customized < 2 ^ 64
    pub due : open_due rate chaining p ≡ true
    pub more_fits : p.absorbed + p.customized + length piece ≤ message_limit + customization_limit
    pub tree-fits : Fits rate (tree_of node leaf (place_of p))
    pub index-fits : (place_of p).index + length piece + 1 < 2 ^ 63

  pub ready : Taken rate chaining p (length piece) → Ready
  ready t =
      let h : Passed rate chaining (run_with node leaf p) = fits rate chaining (run_with node leaf p) pos t.reached in
      let few = place-index rate chaining node leaf p in
      record {
        totals_fit = omega (arith, h.absorbed-fits, h.customized-fits);
        due = due_told rate chaining node leaf p t.reached (λ z. omega (arith, t.message, z));
        more_fits = omega (arith, t.fed, h.customized-fits);
        tree-fits = place-fits rate chaining node leaf p h.node_fits h.leaf-fits;
        index-fits = omega (arith, few, t.fed, h.customized-fits);
      }

  -- what the tree leaves, with the new total and count, is the answer
  pub feed_done : (node' leaf' : List ℕ) (from after : Place) (total n : ℕ) (m : Moved) → Taken rate chaining p (length piece) → from ≡ place_of p → total ≡ p.absorbed + length piece
      → tree_of node' leaf' after ≡ absorb_tree rate chaining (tree_of node leaf from) piece → n ≡ open_kt rate chaining (p.absorbed + p.customized + length piece)
      → m ≡ record { at = record { node = after.node; leaf = after.leaf; phase = p.phase; absorbed = total; customized = p.customized; squeezed = p.squeezed; permutations = n }; status = 0 }
      → answered m node' leaf' ≡ answer_of rate chaining (run_with node leaf p) (absorb piece)
  feed_done node' leaf' from after total n m t ef et e c moved =
      let sum : p.absorbed + p.customized + length piece ≡ p.absorbed + length piece + p.customized = omega arith in
      ap (λ (x : Moved). answered x node' leaf') moved
      ∙ ap (λ (k : ℕ). answered (record { at = record { node = after.node; leaf = after.leaf; phase = p.phase; absorbed = k; customized = p.customized; squeezed = p.squeezed; permutations = n }; status = 0 }) node' leaf') et
      ∙ absorb-answer rate chaining node leaf p pos t.reached piece node' leaf' after n (not-customized rate chaining (run_with node leaf p) t.reached t.message)
      (e ∙ ap (λ (q : Place). absorb_tree rate chaining (tree_of node leaf q) piece) ef)
      (c ∙ ap (open_kt rate chaining) sum ∙ open_count_lem rate chaining p.phase (p.absorbed + length piece + p.customized) p.customized p.squeezed (λ z. omega (arith, t.message, z)))
      (status_is ∙ sym (feed_0 rate chaining p (length piece) t.reached t.message t.fed))

-- ---- with lent words

module _ (rate chaining : ℕ) (r : Run) (s piece : List ℕ) where
  pub feed_12 : (m : Moved) (p : Progress) (node leaf : List ℕ) → r ≡ run_with node leaf p → (length s ≡ 100 → ⊥) → m ≡ record { at = p; status = 12 } → answered m node leaf ≡ answer_abreast rate chaining r (length s) piece
  unfolding answer_abreast
  feed_12 m p node leaf e h w = ap (λ (x : Moved). answered x node leaf) w ∙ rw (ne_eqb (length s) 100 h, e)

  pub abreast_taken : length s ≡ 100 → answer_of rate chaining r (absorb piece) ≡ answer_abreast rate chaining r (length s) piece
  unfolding answer_abreast reply_of
  abreast_taken h = rw (eq-eqb (length s) 100 h)
