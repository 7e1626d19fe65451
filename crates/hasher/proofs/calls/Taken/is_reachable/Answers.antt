use mathlib.Core.Path.{◌≡◌, sym, ap, ◌∙◌}
use mathlib.Core.Bool.{false, cond}
use Prim.Native.Nat.{ℕ, zero, suc, ◌+◌, ◌/◌, ◌≤◌, ◌<◌}
use native.Mathlib.Nat.{zero-add}
use native.Mathlib.Omega.{arith}
use lib.Dec.{eqb}
use borrow.Author.Tests.{le-leb, lt-leb, eq-eqb, ne_eqb}
use Rattle.sponge.specs.Waiting.{position_after}
use Rattle.sponge.specs.Count.{open_count, closed_count}
use Rattle.hasher.specs.Function.{message_limit}
use Rattle.hasher.specs.Model.{reachable}
use Rattle.hasher.proofs.calls.Taken.is_reachable.Goals as goal

-- each test's answer, by the phase
module _ (rate limit position absorbed squeezed permutations : ℕ) where
  too_long : (phase : ℕ) → message_limit < absorbed → false ≡ reachable rate limit position phase absorbed squeezed permutations
  unfolding reachable
  too_long phase h = simp (lt-leb absorbed message_limit h)

  module _ (a : absorbed ≤ message_limit) where
    no_phase : (phase : ℕ) → 1 < phase → false ≡ reachable rate limit position phase absorbed squeezed permutations
    unfolding reachable
    no_phase phase h = simp (le-leb absorbed message_limit a, ne_eqb phase 0 (λ e. omega arith), ne_eqb phase 1 (λ e. omega arith))

    too_much : (phase most : ℕ) → phase ≤ 1 → most ≡ cond (eqb phase 0) 0 limit → most < squeezed → false ≡ reachable rate limit position phase absorbed squeezed permutations
    unfolding reachable
    too_much zero most h e l = simp (le-leb absorbed message_limit a, ne_eqb squeezed 0 (λ z. omega arith))
    too_much (suc zero) most h e l = simp (le-leb absorbed message_limit a, lt-leb squeezed limit (omega arith))
    too_much (suc (suc phase)) most h e l = absurd (omega arith)

    -- n is the total that tells the position, p the position that it tells
    elsewhere : (phase most n p : ℕ) → phase ≤ 1 → most ≡ cond (eqb phase 0) 0 limit → squeezed ≤ most → n ≡ cond (eqb phase 0) absorbed squeezed → p ≡ position_after rate n → (position ≡ p → ⊥)
        → false ≡ reachable rate limit position phase absorbed squeezed permutations
    unfolding reachable
    elsewhere zero most n p h e l f g o =
        simp (le-leb absorbed message_limit a, eq-eqb squeezed 0 (omega arith), ne_eqb position (position_after rate absorbed) (λ z. o (z ∙ sym (g ∙ ap (position_after rate) f))))
    elsewhere (suc zero) most n p h e l f g o =
        simp (le-leb absorbed message_limit a, le-leb squeezed limit (omega arith), ne_eqb position (position_after rate squeezed) (λ z. o (z ∙ sym (g ∙ ap (position_after rate) f))))
    elsewhere (suc (suc phase)) most n p h e l f g o = absurd (omega arith)

    -- k permutations up to the close, and j since
    by_count : (phase most n p k j : ℕ) → phase ≤ 1 → most ≡ cond (eqb phase 0) 0 limit → squeezed ≤ most → n ≡ cond (eqb phase 0) absorbed squeezed → p ≡ position_after rate n → position ≡ p
        → k ≡ cond (eqb phase 0) 0 (suc (absorbed / rate)) → j ≡ open_count rate n
        → eqb permutations (k + j) ≡ reachable rate limit position phase absorbed squeezed permutations
    unfolding reachable
    by_count zero most n p k j h e l f g o u v =
        let w : k + j ≡ open_count rate absorbed = (λ i. u i + (v ∙ ap (open_count rate) f) i) ∙ zero-add (open_count rate absorbed) in
        simp (le-leb absorbed message_limit a, eq-eqb squeezed 0 (omega arith), eq-eqb position (position_after rate absorbed) (o ∙ g ∙ ap (position_after rate) f), w)
    by_count (suc zero) most n p k j h e l f g o u v =
        let w : k + j ≡ closed_count rate absorbed squeezed = λ i. u i + (v ∙ ap (open_count rate) f) i in
        simp (le-leb absorbed message_limit a, le-leb squeezed limit (omega arith), eq-eqb position (position_after rate squeezed) (o ∙ g ∙ ap (position_after rate) f), w)
    by_count (suc (suc phase)) most n p k j h e l f g o u v = absurd (omega arith)

pub returns-then-at-gt-MESSAGE_LIMIT : goal.returns-then-at-gt-MESSAGE_LIMIT
returns-then-at-gt-MESSAGE_LIMIT c =
    let at = c.args.at in
    too_long c.args.self.rate c.args.self.limit at.position at.absorbed at.squeezed at.permutations at.phase (omega (arith, c.if-at-gt-MESSAGE_LIMIT.true))

pub returns-then-at-gt-SQUEEZING : goal.returns-then-at-gt-SQUEEZING
returns-then-at-gt-SQUEEZING c =
    let at = c.args.at in
    no_phase c.args.self.rate c.args.self.limit at.position at.absorbed at.squeezed at.permutations (omega (arith, c.if-at-gt-MESSAGE_LIMIT.false)) at.phase (omega (arith, c.if-at-gt-SQUEEZING.true))

pub returns-then-most_squeezed-at : goal.returns-then-most_squeezed-at
returns-then-most_squeezed-at c =
    let most = c.most_squeezed in
    let at = c.args.at in
    too_much c.args.self.rate c.args.self.limit at.position at.absorbed at.squeezed at.permutations (omega (arith, c.if-at-gt-MESSAGE_LIMIT.false)) at.phase most.result (omega (arith, c.if-at-gt-SQUEEZING.false)) most.ensures.0 (omega (arith, c.if-most_squeezed-at.true))

pub returns-then-at-position_after : goal.returns-then-at-position_after
returns-then-at-position_after c =
    let place = c.position_after in
    let total = c.total_in_hand-n in
    let most = c.most_squeezed in
    let at = c.args.at in
    elsewhere c.args.self.rate c.args.self.limit at.position at.absorbed at.squeezed at.permutations (omega (arith, c.if-at-gt-MESSAGE_LIMIT.false)) at.phase most.result total.result place.result (omega (arith, c.if-at-gt-SQUEEZING.false)) most.ensures.0 (omega (arith, c.if-most_squeezed-at.false)) total.ensures.0 place.ensures c.if-at-position_after.true

pub overflow_add-result : goal.overflow_add-result
overflow_add-result c =
    let k = c.count_at_close in
    let total = c.total_in_hand-n in
    let most = c.most_squeezed in
    omega (arith, c.open_count.ensures.1, k.ensures.1, total.ensures.1, most.ensures.1, c.if-most_squeezed-at.false, c.if-at-gt-MESSAGE_LIMIT.false)

pub returns : goal.returns
returns c =
    let j = c.open_count in
    let k = c.count_at_close in
    let place = c.position_after in
    let total = c.total_in_hand-n in
    let most = c.most_squeezed in
    let at = c.args.at in
    by_count c.args.self.rate c.args.self.limit at.position at.absorbed at.squeezed at.permutations (omega (arith, c.if-at-gt-MESSAGE_LIMIT.false)) at.phase most.result total.result place.result k.result j.result (omega (arith, c.if-at-gt-SQUEEZING.false)) most.ensures.0 (omega (arith, c.if-most_squeezed-at.false)) total.ensures.0 place.ensures c.if-at-position_after.false k.ensures.0 j.ensures.0
