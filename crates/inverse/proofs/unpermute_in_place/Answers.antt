-- `inverse::unpermute_in_place` meets its contract. The loop's invariant: the rounds that are left, undone to `a`, give the result.
-- Assumes nothing.
use Prim.Native.Nat.{◌≤◌, ◌<◌}
use native.Mathlib.Omega.{arith}
use Rattle.keccak.proofs.Rounds.{all_taken, too_many}
use Rattle.inverse.proofs.Rounds.{last_unrounds-none}
use Rattle.inverse.proofs.Undoing.{one_less, all_left, all_undone}
use Rattle.inverse.proofs.unpermute_in_place.Goals as goal

pub returns-then-rounds-gt24 : goal.returns-then-rounds-gt24
returns-then-rounds-gt24 c =
    let a = c.args in
    let h : 24 < a.rounds = omega arith in record {
      value = too_many a.rounds h;
      lanes_after = last_unrounds-none a.rounds a.lanes.now h;
    }

pub loop-left-init : goal.loop-left-init
loop-left-init c =
    let a = c.args in
    let h : a.rounds ≤ 24 = omega arith in
    all_left a.rounds a.lanes.now h

pub loop-left-preserved : goal.loop-left-preserved
loop-left-preserved c =
    let at = c.loop-left in
    let n = c.args.rounds in
    let most : n ≤ 24 = omega arith in
    one_less n at.a c.unround-b.result _ at.left (omega arith) (omega arith) most c.unround-b.ensures at.invariant

pub returns : goal.returns
returns c =
    let at = c.loop-left in
    record {
      value = all_taken c.args.rounds c.if-rounds-gt24.false;
      lanes_after = all_undone _ at.a _ at.left (omega arith) at.invariant;
    }
