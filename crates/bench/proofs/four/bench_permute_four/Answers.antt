use mathlib.Core.Path.{◌≡◌, refl, sym, ap, ◌∙◌}
use mathlib.Core.Logic.{◌≢◌}
use mathlib.Core.List.{List}
use Prim.Native.Nat.{ℕ, zero, suc, ◌+◌}
use native.Mathlib.Numerals.{add-one}
use native.Mathlib.Omega.{arith}
use borrow.Author.Tests.{eq-eqb, ne_eqb}
use lib.ListN.{length}
use Rattle.abreast.specs.Four.{permuted_four}
use Rattle.abreast.proofs.Four.{permuted-other_length}
use Rattle.abreast.proofs.Claims.{abreast}
use Rattle.bench.specs.Repeat.{repeated_four}
use Rattle.bench.proofs.four.bench_permute_four.Goals as goal

one_more : (l s t : List ℕ) (i : ℕ) → s ≡ repeated_four i l → t ≡ permuted_four 12 s → t ≡ repeated_four (i + 1) l
unfolding repeated_four
one_more l s t i h e = e ∙ ap (permuted_four 12) h ∙ ap (λ (k : ℕ). repeated_four k l) (sym (add-one i))

-- a slice of another length stays as it is, however often
stays : (n : ℕ) (s : List ℕ) → length s ≢ 100 → s ≡ repeated_four n s
unfolding repeated_four
stays zero s h = refl
stays (suc n) s h = permuted-other_length 12 s h ∙ ap (permuted_four 12) (stays n s h)

pub returns-then-states-ne100 : goal.returns-then-states-ne100
returns-then-states-ne100 c =
    let a = c.args in
    let h : length a.states.now ≢ 100 = λ e. absurd (omega (arith, c.if-states-ne100.true)) in record {
      value = rw (ne_eqb (length a.states.now) 100 h);
      states_after = stays a.count a.states.now h;
    }

pub loop-init : goal.loop-init
unfolding repeated_four
loop-init c = (refl, refl)

pub loop-preserved : goal.loop-preserved
loop-preserved c =
    let at = c.loop in (
      ap length c.permute_in_place.ensures.states_after ∙ abreast.words _ at.states ∙ at.invariant.0,
      one_more _ at.states c.permute_in_place.new.states at.counter at.invariant.1 c.permute_in_place.ensures.states_after,
    )

pub shape_of-states : goal.shape_of-states
shape_of-states c = c.loop.invariant.0

pub returns : goal.returns
returns c =
    let at = c.loop in
    let a = c.args in
    let h : length a.states.now ≡ 100 = omega (arith, c.if-states-ne100.false) in
    let e : at.counter ≡ a.count = omega arith in record {
      value = rw (eq-eqb (length a.states.now) 100 h);
      states_after = at.invariant.1 ∙ ap (λ (k : ℕ). repeated_four k a.states.now) e;
    }
