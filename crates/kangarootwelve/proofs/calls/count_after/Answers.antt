use native.Mathlib.Omega.{arith}
use Rattle.kangarootwelve.proofs.Numbers.{hand_fits, place-position, stays_within}
use Rattle.kangarootwelve.proofs.calls.count_after.Goals as goal

pub overflow_sub-strength : goal.overflow_sub-strength
overflow_sub-strength c = rw c.position_in_hand.ensures (hand_fits c.args.strength.rate c.args.strength.chaining c.args.strength.bounds.0 c.args.at c.args.from c.requires.0 c.requires.1)

pub overflow_sub-from : goal.overflow_sub-from
overflow_sub-from c = place-position c.args.at c.args.from c.requires.1

pub returns-then-more-from : goal.returns-then-more-from
returns-then-more-from c =
    let h = c.position_in_hand in
    stays_within c.args.strength.rate c.args.strength.chaining c.args.strength.bounds.0 c.args.at c.args.from c.args.more c.requires.0 c.requires.1 h.result h.ensures c.if-more-strength.true c.if-more-from.true

pub overflow_add-at : goal.overflow_add-at
overflow_add-at c = omega (arith, c.requires.2)

pub overflow_add-at-2 : goal.overflow_add-at-2
overflow_add-at-2 c = omega (arith, c.requires.2)

pub open_kt-requires : goal.open_kt-requires
open_kt-requires c = c.requires.2
