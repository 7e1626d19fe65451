use native.Mathlib.Omega.{arith}
use mathlib.Core.Path.{◌∙◌}
use borrow.Author.Tests.{eq-eqb}
use Prim.Native.Nat.{◌≤◌}
use Rattle.kangarootwelve.specs.Transcript.{customization_limit}
use Rattle.kangarootwelve.proofs.Tests.{long, customized_long, no_phase, open_squeezed, most-fits, not_open, open_due_lem}
use Rattle.kangarootwelve.proofs.reached.is_open.Goals as goal

pub returns-then-at-gt-MESSAGE_LIMIT : goal.returns-then-at-gt-MESSAGE_LIMIT
returns-then-at-gt-MESSAGE_LIMIT c =
    let a = c.args in
    not_open a.strength.rate a.strength.chaining a.at (long a.strength.rate a.strength.chaining a.at.node a.at.leaf a.at.phase a.at.absorbed a.at.customized a.at.squeezed c.if-at-gt-MESSAGE_LIMIT.true)

pub returns-then-customized_most-at : goal.returns-then-customized_most-at
returns-then-customized_most-at c =
    let a = c.args in
    let t = c.customized_most in
    not_open a.strength.rate a.strength.chaining a.at
    (customized_long a.strength.rate a.strength.chaining a.at.node a.at.leaf a.at.phase a.at.absorbed a.at.customized a.at.squeezed c.if-at-gt-MESSAGE_LIMIT.false t.result t.ensures c.if-customized_most-at.true)

pub returns-then-at-eq-SQUEEZING : goal.returns-then-at-eq-SQUEEZING
returns-then-at-eq-SQUEEZING c = rw (eq-eqb c.args.at.phase 1 c.if-at-eq-SQUEEZING.true)

pub returns-then-at-gt-CUSTOMIZING : goal.returns-then-at-gt-CUSTOMIZING
returns-then-at-gt-CUSTOMIZING c =
    let a = c.args in
    let t = c.customized_most in
    not_open a.strength.rate a.strength.chaining a.at
    (no_phase a.strength.rate a.strength.chaining a.at.node a.at.leaf a.at.phase a.at.absorbed a.at.customized a.at.squeezed c.if-at-gt-MESSAGE_LIMIT.false t.result t.ensures c.if-customized_most-at.false c.if-at-eq-SQUEEZING.false c.if-at-gt-CUSTOMIZING.true)

pub returns-then-at-ne0 : goal.returns-then-at-ne0
returns-then-at-ne0 c =
    let a = c.args in
    let t = c.customized_most in
    not_open a.strength.rate a.strength.chaining a.at
    (open_squeezed a.strength.rate a.strength.chaining a.at.node a.at.leaf a.at.phase a.at.absorbed a.at.customized a.at.squeezed c.if-at-gt-MESSAGE_LIMIT.false t.result t.ensures c.if-customized_most-at.false c.if-at-eq-SQUEEZING.false c.if-at-gt-CUSTOMIZING.false c.if-at-ne0.true)

pub is_due-requires : goal.is_due-requires
is_due-requires c =
    let customized : (c.args.at.customized ≤ customization_limit) = (most-fits c.args.at.phase c.args.at.customized (rw (← c.customized_most.ensures) c.if-customized_most-at.false)) in
    omega (arith, customized, c.if-at-gt-MESSAGE_LIMIT.false)

pub returns : goal.returns
returns c =
    let a = c.args in
    let t = c.customized_most in
    c.is_due.ensures ∙ open_due_lem a.strength.rate a.strength.chaining a.at c.if-at-gt-MESSAGE_LIMIT.false t.result t.ensures c.if-customized_most-at.false c.if-at-eq-SQUEEZING.false c.if-at-gt-CUSTOMIZING.false c.if-at-ne0.false
