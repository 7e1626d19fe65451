-- The theorem on the code's runs, of every function of the sponge, and on what holds one of its runs.
-- Assumes nothing.
use mathlib.Core.Path.{◌≡◌, sym, ap, ◌∙◌}
use mathlib.Core.List.{List}
use Prim.Native.Nat.{ℕ}
use Rattle.keccak.specs.State.{State}
use Rattle.keccak.specs.Permutation.{last_rounds}
use Rattle.inverse.specs.Inverse.{last_unrounds}
use Rattle.inverse.specs.Claims.{Inverse}
use Rattle.inverse.proofs.Claims as inverse
use Rattle.sponge.specs.Callable.{Bytes}
use Rattle.sponge.specs.Waiting.{position_after}
use Rattle.sponge.specs.Count.{open_count}
use Rattle.sponge.specs.Model.{absorb_bytes}
use Rattle.sponge.specs.Transcript.{Call.absorb}
use Rattle.hasher.specs.Function.{Function}
use Rattle.hasher.specs.Model.{answer}
use Rattle.hasher.specs.declared.Run.{Run}
use Rattle.hasher.specs.declared.Answer.{Answer}
use Rattle.hasher.proofs.Absorbed.{test_passed, phase_open, position-told, permutations-told, none-squeezed, lanes_left}
use Rattle.injective.specs.Claims.{Injective}
use Rattle.injective.proofs.Sponge.{absorb-state, absorb-injective}

module _ {A : Type 0} (F : Function A) where
  undone : Inverse (last_rounds F.rounds) (last_unrounds F.rounds)
  undone = (inverse.claims).rounds-undone F.rounds

  state_left : (r : Run) (p : List ℕ) → State r.lanes → Bytes p → (answer F r (absorb p)).status ≡ 0 → State (answer F r (absorb p)).run.lanes
  state_left r p s h e = rw (lanes_left F r p e) (absorb-state (last_rounds F.rounds) (last_unrounds F.rounds) undone F.rate p h r.lanes r.position s)

  same_run : (r t : Run) (p : List ℕ) → State r.lanes → State t.lanes → Bytes p → r.absorbed ≡ t.absorbed
      → (answer F r (absorb p)).status ≡ 0 → (answer F t (absorb p)).status ≡ 0
      → (answer F r (absorb p)).run.lanes ≡ (answer F t (absorb p)).run.lanes → r ≡ t
  same_run r t p s u h total f g e =
      let position : r.position ≡ t.position = position-told F r p f ∙ ap (position_after F.rate) total ∙ sym (position-told F t p g) in
      let permutations : r.permutations ≡ t.permutations = permutations-told F r p f ∙ ap (open_count F.rate) total ∙ sym (permutations-told F t p g) in
      let phase : r.phase ≡ t.phase = phase_open F r p f ∙ sym (phase_open F t p g) in
      let squeezed : r.squeezed ≡ t.squeezed = none-squeezed F r p f ∙ sym (none-squeezed F t p g) in
      let lanes : r.lanes ≡ t.lanes =
      absorb-injective (last_rounds F.rounds) (last_unrounds F.rounds) undone F.rate p h r.lanes t.lanes r.position s u
      (sym (lanes_left F r p f) ∙ e ∙ lanes_left F t p g
      ∙ ap (λ (i : ℕ). (absorb_bytes (last_rounds F.rounds) F.rate (record { value = t.lanes; position = i }) p).value) (sym position)) in
      λ i. record { lanes = lanes i; position = position i; phase = phase i; absorbed = total i; squeezed = squeezed i; permutations = permutations i }

  -- by what the calls answered
  pub same_answered : (r t : Run) (p : List ℕ) {x y : Answer} → x ≡ answer F r (absorb p) → y ≡ answer F t (absorb p) → State r.lanes → State t.lanes → Bytes p
      → r.absorbed ≡ t.absorbed → x.status ≡ 0 → y.status ≡ 0 → x.run.lanes ≡ y.run.lanes → r ≡ t
  same_answered r t p a b s u h total f g e =
      same_run r t p s u h total (sym (ap (λ (x : Answer). x.status) a) ∙ f) (sym (ap (λ (x : Answer). x.status) b) ∙ g)
      (sym (ap (λ (x : Answer). x.run.lanes) a) ∙ e ∙ ap (λ (x : Answer). x.run.lanes) b)

  -- what holds a run and nothing else
  pub of : {H : Type 0} (run : H → Run) → ((x y : H) → run x ≡ run y → x ≡ y) → Injective F run
  of run whole = record {
    phase_open = λ x p e. phase_open F (run x) p e;
    test_passed = λ x p e. test_passed F (run x) p e;
    none-squeezed = λ x p e. none-squeezed F (run x) p e;
    state_left = λ x p s h e. state_left (run x) p s h e;
    injective = λ x y p s u h total f g e. whole x y (same_run (run x) (run y) p s u h total f g e);
  }
