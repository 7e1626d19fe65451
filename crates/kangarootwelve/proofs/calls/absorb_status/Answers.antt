use mathlib.Core.Path.{◌≡◌, sym, ◌∙◌}
use mathlib.Core.Bool.{true}
use native.Mathlib.Omega.{arith}
use Rattle.kangarootwelve.specs.Inside.{reached_at}
use Rattle.kangarootwelve.proofs.Feed.{feed_not_open, feed_3, feed_2, feed_0, most-absorbed}
use Rattle.kangarootwelve.proofs.Cases.{open_passed}
use Rattle.kangarootwelve.proofs.calls.absorb_status.Goals as goal

pub returns-then-not-is_open : goal.returns-then-not-is_open
returns-then-not-is_open c =
    let a = c.args in
    feed_not_open a.strength.rate a.strength.chaining a.at a.more c.status_if_not_open.result c.status_if_not_open.ensures (sym c.is_open.ensures ∙ c.if-not-is_open.true)

pub returns-then-at-ne-ABSORBING : goal.returns-then-at-ne-ABSORBING
returns-then-at-ne-ABSORBING c =
    let was : (let a = c.args in (a.at.phase ≡ 1 → ⊥) × (reached_at a.strength.rate a.strength.chaining a.at ≡ true)) = (open_passed c.args.at.phase _ (sym c.is_open.ensures ∙ c.if-not-is_open.false)) in
    let a = c.args in feed_3 a.strength.rate a.strength.chaining a.at a.more (was).1 c.if-at-ne-ABSORBING.true

pub overflow_add-at : goal.overflow_add-at
overflow_add-at c =
    let was : (let a = c.args in (a.at.phase ≡ 1 → ⊥) × (reached_at a.strength.rate a.strength.chaining a.at ≡ true)) = (open_passed c.args.at.phase _ (sym c.is_open.ensures ∙ c.if-not-is_open.false)) in
    let h = most-absorbed c.args.strength.rate c.args.strength.chaining c.args.at c.args.strength.bounds.0 (was).1 in
    omega (arith, h, c.requires)

pub returns-then-at-more-gt-MESSAGE_LIMIT : goal.returns-then-at-more-gt-MESSAGE_LIMIT
returns-then-at-more-gt-MESSAGE_LIMIT c =
    let was : (let a = c.args in (a.at.phase ≡ 1 → ⊥) × (reached_at a.strength.rate a.strength.chaining a.at ≡ true)) = (open_passed c.args.at.phase _ (sym c.is_open.ensures ∙ c.if-not-is_open.false)) in
    let a = c.args in feed_2 a.strength.rate a.strength.chaining a.at a.more (was).1 c.if-at-ne-ABSORBING.false c.if-at-more-gt-MESSAGE_LIMIT.true

pub returns : goal.returns
returns c =
    let was : (let a = c.args in (a.at.phase ≡ 1 → ⊥) × (reached_at a.strength.rate a.strength.chaining a.at ≡ true)) = (open_passed c.args.at.phase _ (sym c.is_open.ensures ∙ c.if-not-is_open.false)) in
    let a = c.args in feed_0 a.strength.rate a.strength.chaining a.at a.more (was).1 c.if-at-ne-ABSORBING.false c.if-at-more-gt-MESSAGE_LIMIT.false
