-- The theorem on the runs of SP 800-185's functions.
-- Assumes nothing.
use mathlib.Core.Path.{◌≡◌, sym, ap, ◌∙◌}
use mathlib.Core.List.{List}
use Prim.Native.Nat.{ℕ, ◌+◌, ◌≤◌}
use Rattle.keccak.specs.State.{State}
use Rattle.keccak.specs.Permutation.{last_rounds}
use Rattle.inverse.specs.Inverse.{last_unrounds}
use Rattle.inverse.proofs.Claims as inverse
use Rattle.sponge.specs.Callable.{Bytes}
use Rattle.sponge.specs.Waiting.{position_after}
use Rattle.sponge.specs.Model.{absorb_bytes}
use Rattle.sponge.specs.Transcript.{Call.absorb}
use Rattle.hasher.specs.declared.Run.{Run}
use Rattle.sp800_185.specs.Function.{Function}
use Rattle.sp800_185.specs.Model.{answer}
use Rattle.sp800_185.proofs.Lengths.{Meets}
use Rattle.sp800_185.proofs.Absorbed.{phase_open, position-told, none_kept, none-squeezed, lanes_left}
use Rattle.injective.specs.Claims.{with_permutations, AfterStart}
use Rattle.injective.proofs.Sponge.{absorb-injective}

module _ {A : Type 0} (F : Function A) (E : Meets F) (one : 1 ≤ F.least) where
  same_run : (r t : Run) (l k : ℕ) (p : List ℕ) → State r.lanes → State t.lanes → Bytes p → r.absorbed ≡ t.absorbed
      → (answer F (record { run = r; length = l }) (absorb p)).status ≡ 0 → (answer F (record { run = t; length = k }) (absorb p)).status ≡ 0
      → (answer F (record { run = r; length = l }) (absorb p)).keyed.run.lanes ≡ (answer F (record { run = t; length = k }) (absorb p)).keyed.run.lanes
      → (with_permutations r t.permutations ≡ t) × (l ≡ k)
  same_run r t l k p s u h total f g e =
      let position : r.position ≡ t.position = position-told F E one _ p f ∙ ap (λ (n : ℕ). position_after F.rate (F.rate + n)) total ∙ sym (position-told F E one _ p g) in
      let phase : r.phase ≡ t.phase = phase_open F E one _ p f ∙ sym (phase_open F E one _ p g) in
      let squeezed : r.squeezed ≡ t.squeezed = none-squeezed F E one _ p f ∙ sym (none-squeezed F E one _ p g) in
      let lanes : r.lanes ≡ t.lanes =
      absorb-injective (last_rounds 24) (last_unrounds 24) ((inverse.claims).rounds-undone 24) F.rate p h r.lanes t.lanes r.position s u
      (sym (lanes_left F E one _ p f) ∙ e ∙ lanes_left F E one _ p g
      ∙ ap (λ (i : ℕ). (absorb_bytes (last_rounds 24) F.rate (record { value = t.lanes; position = i }) p).value) (sym position)) in (
        λ i. record { lanes = lanes i; position = position i; phase = phase i; absorbed = total i; squeezed = squeezed i; permutations = t.permutations },
        none_kept F E one _ p f ∙ sym (none_kept F E one _ p g),
      )

  pub after-start : AfterStart F
  after-start = record { injective = same_run }
