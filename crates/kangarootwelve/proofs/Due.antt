-- What the totals tell of a run's positions and number of permutations, and that the test of status 5 says it.
-- Assumes nothing.
use mathlib.Core.Path.{◌≡◌, refl, sym, subst}
use mathlib.Core.List.{List, [], ◌∷◌}
use mathlib.Core.Bool.{Bool, true, false, cond, ◌&&◌, and-eq-true_iff}
use Prim.Native.Nat.{ℕ, zero, suc, ◌+◌, ◌≤◌, ◌<◌}
use native.Mathlib.Omega.{arith}
use lib.Dec.{T, eqb, leb}
use borrow.Author.Tests.{eq-eqb, ne_eqb, eqb-true, le-leb, lt-leb, leb-true}
use Rattle.sponge.specs.Waiting.{position_after}
use Rattle.sponge.specs.Runs.{Run}
use Rattle.sponge.proofs.Reachable.{Shape, Fixed}
use Rattle.turboshake.specs.Transcript.{message_limit, output_limit}
use Rattle.kangarootwelve.specs.Transcript.{customization_limit, customization_status, rules}
use Rattle.kangarootwelve.specs.Count.{open_kt, closed_kt, count_due}
use Rattle.kangarootwelve.specs.Model.{Nodes, final_due, leaf_due, placed, reachable, machine}

-- the positions in the two blocks and the number of permutations, and what they have to be
abbrev pub positions : Nodes → List ℕ
positions s = s.final.position ∷ s.leaf.position ∷ s.permutations ∷ []

abbrev pub due : ℕ → ℕ → ℕ → ℕ → ℕ → ℕ → ℕ → List ℕ
due rate chaining phase absorbed customized squeezed limit =
    cond (eqb phase 1) (position_after rate squeezed ∷ 0 ∷ closed_kt rate chaining (absorbed + customized) customized squeezed ∷ [])
    (final_due rate chaining (absorbed + customized) ∷ leaf_due rate (absorbed + customized) ∷ open_kt rate chaining (absorbed + customized) ∷ [])

both : (a b : Bool) → a && b ≡ true → (a ≡ true) × (b ≡ true)
both a b e = (and-eq-true_iff a b).0 e

pub triple : {a b c d e f : ℕ} → a ≡ d → b ≡ e → c ≡ f → ◌≡◌ {A = List ℕ} (a ∷ b ∷ c ∷ []) (d ∷ e ∷ f ∷ [])
triple p q r = λ i. p i ∷ q i ∷ r i ∷ []

pub first_is : {a b c d e f : ℕ} → ◌≡◌ {A = List ℕ} (a ∷ b ∷ c ∷ []) (d ∷ e ∷ f ∷ []) → a ≡ d
first_is p = cc p

pub second_is : {a b c d e f : ℕ} → ◌≡◌ {A = List ℕ} (a ∷ b ∷ c ∷ []) (d ∷ e ∷ f ∷ []) → b ≡ e
second_is p = cc p

pub third_is : {a b c d e f : ℕ} → ◌≡◌ {A = List ℕ} (a ∷ b ∷ c ∷ []) (d ∷ e ∷ f ∷ []) → c ≡ f
third_is p = cc p

-- C is taken up to its limit, and no longer one is
pub customization-taken : (n : ℕ) → n ≤ customization_limit → customization_status n ≡ 0
unfolding customization_status
customization-taken n h = rw (le-leb n customization_limit h)

pub customization_long : (n : ℕ) → customization_limit < n → customization_status n ≡ 4
unfolding customization_status
customization_long n h = rw (lt-leb n customization_limit h)

module _ (rate chaining : ℕ) where
  -- ---- the test of status 5 says what Shape says

  -- the part of the test that the phases before the close share: nothing is squeezed, and the positions tell the n bytes of S
  open_test : (f l n k : ℕ) → (eqb k 0 && (eqb f (final_due rate chaining n) && eqb l (leaf_due rate n))) ≡ true → (k ≤ 0) × (f ≡ final_due rate chaining n) × (l ≡ leaf_due rate n)
  open_test f l n k e =
      let b = both (eqb k 0) _ e in
      let d = both (eqb f (final_due rate chaining n)) (eqb l (leaf_due rate n)) b.1 in
      (omega (arith, eqb-true k 0 b.0), eqb-true _ _ d.0, eqb-true _ _ d.1)

  test_open : (f l n k : ℕ) → k ≤ 0 → f ≡ final_due rate chaining n → l ≡ leaf_due rate n → (eqb k 0 && (eqb f (final_due rate chaining n) && eqb l (leaf_due rate n))) ≡ true
  test_open f l n k h e g =
      let z : k ≡ 0 = omega arith in
      rw (eq-eqb k 0 z, eq-eqb f (final_due rate chaining n) e, eq-eqb l (leaf_due rate n) g)

  shape_by : (s : Nodes) (h n k : ℕ) → placed rate chaining s.final.position s.leaf.position h n s.customized k ≡ true
      → s.permutations ≡ count_due rate chaining h (n + s.customized) s.customized k
      → Shape (rules rate chaining) (machine rate chaining) positions (due rate chaining) (Fixed output_limit) (record { state = s; phase = h; absorbed = n; squeezed = k })
  unfolding placed rules machine
  shape_by s zero n k e w =
      let a = both (leb n message_limit) _ e in
      let m = both (leb s.customized 0) _ a.1 in
      let d = open_test s.final.position s.leaf.position (n + s.customized) k m.1 in
      record { phase-fits = omega arith; absorbed-fits = leb-true _ _ a.0; customized-fits = leb-true _ _ m.0; limit_due = refl; squeezed-fits = d.0; positions_due = triple d.1 d.2 w }
  shape_by s (suc zero) n k e w =
      let a = both (leb n message_limit) _ e in
      let m = both (leb s.customized customization_limit) _ a.1 in
      let b = both (leb k output_limit) _ m.1 in
      let d = both (eqb s.final.position (position_after rate k)) (eqb s.leaf.position 0) b.1 in
      record {
        phase-fits = omega arith;
        absorbed-fits = leb-true _ _ a.0;
        customized-fits = leb-true _ _ m.0;
        limit_due = refl;
        squeezed-fits = leb-true _ _ b.0;
        positions_due = triple (eqb-true _ _ d.0) (eqb-true _ _ d.1) w;
      }
  shape_by s (suc (suc zero)) n k e w =
      let a = both (leb n message_limit) _ e in
      let m = both (leb s.customized customization_limit) _ a.1 in
      let d = open_test s.final.position s.leaf.position (n + s.customized) k m.1 in
      record { phase-fits = omega arith; absorbed-fits = leb-true _ _ a.0; customized-fits = leb-true _ _ m.0; limit_due = refl; squeezed-fits = d.0; positions_due = triple d.1 d.2 w }
  shape_by s (suc (suc (suc h))) n k e w =
      let past : 2 < suc (suc (suc h)) = omega arith in
      let a = both (leb n message_limit) _ (rw (ne_eqb (suc (suc (suc h))) 0 (λ e. omega arith), ne_eqb (suc (suc (suc h))) 1 (λ e. omega arith), lt-leb (suc (suc (suc h))) 2 past) at e) in
      let m = both (leb s.customized customization_limit) _ a.1 in
      absurd (subst T (sym m.1) tt)

  pub shape : (r : Run Nodes) → (machine rate chaining).reachable r ≡ true → Shape (rules rate chaining) (machine rate chaining) positions (due rate chaining) (Fixed output_limit) r
  unfolding machine reachable
  shape r e =
      let b = both (placed rate chaining r.state.final.position r.state.leaf.position r.phase r.absorbed r.state.customized r.squeezed) _ e in
      shape_by r.state r.phase r.absorbed r.squeezed b.0 (eqb-true _ _ b.1)

  -- the number, in every phase
  pub count_due_lem : (r : Run Nodes) → positions r.state ≡ due rate chaining r.phase r.absorbed r.state.customized r.squeezed output_limit
      → r.state.permutations ≡ count_due rate chaining r.phase (r.absorbed + r.state.customized) r.state.customized r.squeezed
  count_due_lem r e = by (eqb r.phase 1) e
    where
      n : ℕ
      n = r.absorbed + r.state.customized

      by : (b : Bool)
          → positions r.state
          ≡ cond b (position_after rate r.squeezed ∷ 0 ∷ closed_kt rate chaining n r.state.customized r.squeezed ∷ []) (final_due rate chaining n ∷ leaf_due rate n ∷ open_kt rate chaining n ∷ [])
          → r.state.permutations ≡ cond b (closed_kt rate chaining n r.state.customized r.squeezed) (open_kt rate chaining n)
      by true e = third_is e
      by false e = third_is e

  shaped_by : (s : Nodes) (h n k : ℕ) → Shape (rules rate chaining) (machine rate chaining) positions (due rate chaining) (Fixed output_limit) (record { state = s; phase = h; absorbed = n; squeezed = k })
      → placed rate chaining s.final.position s.leaf.position h n s.customized k ≡ true
  unfolding placed rules machine
  shaped_by s zero n k t =
      rw (
        le-leb n message_limit t.absorbed-fits,
        le-leb s.customized 0 t.customized-fits,
        test_open s.final.position s.leaf.position (n + s.customized) k t.squeezed-fits (first_is t.positions_due) (second_is t.positions_due),
      )
  shaped_by s (suc zero) n k t =
      rw (
        le-leb n message_limit t.absorbed-fits,
        le-leb s.customized customization_limit t.customized-fits,
        le-leb k output_limit t.squeezed-fits,
        eq-eqb s.final.position (position_after rate k) (first_is t.positions_due),
        eq-eqb s.leaf.position 0 (second_is t.positions_due),
      )
  shaped_by s (suc (suc zero)) n k t =
      rw (
        le-leb n message_limit t.absorbed-fits,
        le-leb s.customized customization_limit t.customized-fits,
        test_open s.final.position s.leaf.position (n + s.customized) k t.squeezed-fits (first_is t.positions_due) (second_is t.positions_due),
      )
  shaped_by s (suc (suc (suc h))) n k t = absurd (let l = t.phase-fits in omega arith)

  pub shaped : (r : Run Nodes) → Shape (rules rate chaining) (machine rate chaining) positions (due rate chaining) (Fixed output_limit) r → (machine rate chaining).reachable r ≡ true
  unfolding machine reachable
  shaped r t =
      rw (
        shaped_by r.state r.phase r.absorbed r.squeezed t,
        eq-eqb r.state.permutations (count_due rate chaining r.phase (r.absorbed + r.state.customized) r.state.customized r.squeezed) (count_due_lem r t.positions_due),
      )
