use native.Mathlib.Omega.{arith}
use borrow.Author.Tests.{ne_eqb}
use Rattle.kangarootwelve.specs.Transcript.{customization_limit}
use Rattle.kangarootwelve.proofs.Tests.{long, customized_long, closed_long, closed_node, not_closed, closed_count_lem, closed_leaf, closed_most}
use Rattle.kangarootwelve.proofs.reached.is_closed.Goals as goal

pub returns-then-at-ne-SQUEEZING : goal.returns-then-at-ne-SQUEEZING
returns-then-at-ne-SQUEEZING c = rw (ne_eqb c.args.at.phase 1 c.if-at-ne-SQUEEZING.true)

pub returns-then-at-gt-MESSAGE_LIMIT : goal.returns-then-at-gt-MESSAGE_LIMIT
returns-then-at-gt-MESSAGE_LIMIT c =
    let a = c.args in
    not_closed a.strength.rate a.strength.chaining a.at (long a.strength.rate a.strength.chaining a.at.node a.at.leaf a.at.phase a.at.absorbed a.at.customized a.at.squeezed c.if-at-gt-MESSAGE_LIMIT.true)

pub returns-then-at-gt-CUSTOMIZATION_LIMIT : goal.returns-then-at-gt-CUSTOMIZATION_LIMIT
returns-then-at-gt-CUSTOMIZATION_LIMIT c =
    let a = c.args in
    not_closed a.strength.rate a.strength.chaining a.at
    (customized_long a.strength.rate a.strength.chaining a.at.node a.at.leaf a.at.phase a.at.absorbed a.at.customized a.at.squeezed c.if-at-gt-MESSAGE_LIMIT.false customization_limit (closed_most a.at.phase c.if-at-ne-SQUEEZING.false) c.if-at-gt-CUSTOMIZATION_LIMIT.true)

pub returns-then-at-gt-OUTPUT_LIMIT : goal.returns-then-at-gt-OUTPUT_LIMIT
returns-then-at-gt-OUTPUT_LIMIT c =
    let a = c.args in
    let h = c.if-at-ne-SQUEEZING.false in
    not_closed a.strength.rate a.strength.chaining a.at
    (closed_long a.strength.rate a.strength.chaining a.at.node a.at.leaf a.at.phase a.at.absorbed a.at.customized a.at.squeezed c.if-at-gt-MESSAGE_LIMIT.false customization_limit (closed_most a.at.phase h) c.if-at-gt-CUSTOMIZATION_LIMIT.false h c.if-at-gt-OUTPUT_LIMIT.true)

pub returns-then-at-position_after : goal.returns-then-at-position_after
returns-then-at-position_after c =
    let a = c.args in
    let h = c.if-at-ne-SQUEEZING.false in
    let d = c.position_after in
    not_closed a.strength.rate a.strength.chaining a.at
    (closed_node a.strength.rate a.strength.chaining a.at.node a.at.leaf a.at.phase a.at.absorbed a.at.customized a.at.squeezed c.if-at-gt-MESSAGE_LIMIT.false customization_limit (closed_most a.at.phase h) c.if-at-gt-CUSTOMIZATION_LIMIT.false h c.if-at-gt-OUTPUT_LIMIT.false d.result d.ensures c.if-at-position_after.true)

pub overflow_add-total : goal.overflow_add-total
overflow_add-total c = omega (arith, c.if-at-gt-MESSAGE_LIMIT.false, c.if-at-gt-CUSTOMIZATION_LIMIT.false)

pub closed_kt-requires : goal.closed_kt-requires
closed_kt-requires c = (omega (arith, c.if-at-gt-MESSAGE_LIMIT.false, c.if-at-gt-CUSTOMIZATION_LIMIT.false), omega (arith, c.if-at-gt-CUSTOMIZATION_LIMIT.false), omega (arith, c.if-at-gt-OUTPUT_LIMIT.false))

pub returns-then-at-closed_kt : goal.returns-then-at-closed_kt
returns-then-at-closed_kt c =
    let a = c.args in
    let d = c.position_after in
    let w = c.closed_kt in
    closed_count_lem a.strength.rate a.strength.chaining a.at c.if-at-ne-SQUEEZING.false c.if-at-gt-MESSAGE_LIMIT.false c.if-at-gt-CUSTOMIZATION_LIMIT.false c.if-at-gt-OUTPUT_LIMIT.false d.result d.ensures c.if-at-position_after.false w.result w.ensures c.if-at-closed_kt.true

pub returns : goal.returns
returns c =
    let a = c.args in
    let d = c.position_after in
    let w = c.closed_kt in
    closed_leaf a.strength.rate a.strength.chaining a.at c.if-at-ne-SQUEEZING.false c.if-at-gt-MESSAGE_LIMIT.false c.if-at-gt-CUSTOMIZATION_LIMIT.false c.if-at-gt-OUTPUT_LIMIT.false d.result d.ensures c.if-at-position_after.false w.result w.ensures c.if-at-closed_kt.false
