-- `abreast::permute_in_place` meets its contract. The loop's invariant: the rounds that are left, done to each state, give its result.
-- Assumes nothing.
use mathlib.Core.Path.{◌≡◌, sym, ◌∙◌}
use mathlib.Core.Logic.{◌≢◌}
use Prim.Native.Nat.{◌<◌}
use native.Mathlib.Omega.{arith}
use lib.ListN.{length}
use Rattle.keccak.proofs.Rounds.{one_more, none_left, last_constants}
use Rattle.abreast.specs.Four.{state_at}
use Rattle.abreast.proofs.Four.{permuted-each, permuted-other_length, permuted-none, status_12, status_16, status_0}
use Rattle.abreast.proofs.permute_in_place.Goals as goal

pub returns-then-states-ne100 : goal.returns-then-states-ne100
returns-then-states-ne100 c =
    let a = c.args in
    let h : length a.states.now ≢ 100 = λ e. absurd (omega (arith, c.if-states-ne100.true)) in record {
      value = status_12 (length a.states.now) a.rounds h;
      states_after = permuted-other_length a.rounds a.states.now h;
    }

pub returns-then-rounds-gt24 : goal.returns-then-rounds-gt24
returns-then-rounds-gt24 c =
    let a = c.args in
    let h : length a.states.now ≡ 100 = omega (arith, c.if-states-ne100.false) in
    let more : 24 < a.rounds = c.if-rounds-gt24.true in record {
      value = status_16 (length a.states.now) a.rounds h more;
      states_after = permuted-none a.rounds a.states.now h more;
    }

pub loop-rc-init : goal.loop-rc-init
loop-rc-init c =
    let a = c.args in
    (c.if-states-ne100.false, λ k h. last_constants a.rounds (state_at k a.states.now) c.if-rounds-gt24.false)

pub round-requires : goal.round-requires
round-requires c = c.loop-rc.invariant.0

pub loop-rc-preserved : goal.loop-rc-preserved
loop-rc-preserved c =
    let at = c.loop-rc in (
      c.round.ensures.words,
      λ k h. one_more _ (state_at k at.states) _ _ _ c.loop-rc-test.true (c.round.ensures.each k h) (at.invariant.1 k h),
    )

pub shape_of-states : goal.shape_of-states
shape_of-states c = c.loop-rc.invariant.0 ∙ sym c.if-states-ne100.false

pub returns : goal.returns
returns c =
    let at = c.loop-rc in
    let a = c.args in
    let s = a.states.now in
    let h : length s ≡ 100 = c.if-states-ne100.false in record {
      value = status_0 (length s) a.rounds h c.if-rounds-gt24.false;
      states_after = permuted-each a.rounds s at.states h
          (record { words = at.invariant.0; each = λ k g. none_left _ (state_at k at.states) _ at.rc-index (omega arith) (at.invariant.1 k g) });
    }
