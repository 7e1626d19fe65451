-- `keccak::permute_in_place` meets its contract. The loop's invariant: the rounds that are left, done to `a`, give the result.
-- Assumes nothing.
use mathlib.Core.Path.{◌≡◌, refl, ap, sym, ◌∙◌}
use Prim.Native.Nat.{ℕ}
use native.Mathlib.Omega.{arith}
use Rattle.keccak.specs.Permutation.{rounds, last_rounds}
use Rattle.keccak.proofs.Rounds.{one_more, none_left, last_constants, last_none}
use Rattle.keccak.proofs.permute_in_place.Goals as goal

pub returns-then-rounds-gt24-clause-lanes_after : goal.returns-then-rounds-gt24-clause-lanes_after
returns-then-rounds-gt24-clause-lanes_after c = last_none c.args.rounds c.args.lanes.now (omega arith)

pub returns-then-rounds-eq0-clause-lanes_after : goal.returns-then-rounds-eq0-clause-lanes_after
unfolding last_rounds rounds
returns-then-rounds-eq0-clause-lanes_after c =
    let a = c.args in
    let none : a.lanes.now ≡ last_rounds 0 a.lanes.now = refl in
    none ∙ ap (λ (n : ℕ). last_rounds n a.lanes.now) (sym c.if-rounds-eq0.true)

pub loop-rc-init : goal.loop-rc-init
loop-rc-init c = last_constants c.args.rounds c.args.lanes.now (omega arith)

pub loop-rc-preserved : goal.loop-rc-preserved
loop-rc-preserved c = one_more _ _ _ _ _ c.loop-rc-test.true c.round-b.ensures c.loop-rc.invariant

pub returns-clause-lanes_after : goal.returns-clause-lanes_after
returns-clause-lanes_after c = none_left _ _ _ c.loop-rc.rc-index (omega arith) c.loop-rc.invariant
