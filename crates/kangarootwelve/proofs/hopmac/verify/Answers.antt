use mathlib.Core.Path.{sym, ◌∙◌}
use Prim.Native.Nat.{◌≤◌}
use lib.ListN.{length}
use Rattle.kangarootwelve.proofs.Nodes.{value-length}
use Rattle.kangarootwelve.proofs.Mac.{check-fits, check_mac, verdict_refused, verdict_done}
use borrow.Author.Rules.{rules}
use Rattle.kangarootwelve.proofs.hopmac.verify.Goals as goal

pub returns-then-refusal-ne-DONE : goal.returns-then-refusal-ne-DONE
returns-then-refusal-ne-DONE c =
    let a = c.args in
    verdict_refused a.strength.rate a.strength.chaining a.inner a.key.now a.message.now a.customization.now a.presented.now c.check_status-refusal.result c.check_status-refusal.ensures c.if-refusal-ne-DONE.true

pub slice_bounds-expected-end : goal.slice_bounds-expected-end
slice_bounds-expected-end c =
    let a = c.args in
    let few : length a.presented.now ≤ 64 = check-fits (length a.key.now) (length a.message.now) (length a.customization.now) (length a.presented.now) (sym c.check_status-refusal.ensures ∙ c.if-refusal-ne-DONE.false) in
    search rules

pub is_tag-valid-requires : goal.is_tag-valid-requires
is_tag-valid-requires c =
    let a = c.args in
    let e = sym c.check_status-refusal.ensures ∙ c.if-refusal-ne-DONE.false in (c.requires.0, c.requires.1, value-length (length a.presented.now) (check-fits (length a.key.now) (length a.message.now) (length a.customization.now) (length a.presented.now) e), check_mac (length a.key.now) (length a.message.now) (length a.customization.now) (length a.presented.now) e)

pub returns : goal.returns
returns c =
    let a = c.args in
    let s = c.check_status-refusal in
    verdict_done a.strength.rate a.strength.chaining a.inner a.key.now a.message.now a.customization.now a.presented.now s.result s.ensures c.is_tag-valid.result c.if-refusal-ne-DONE.false c.is_tag-valid.ensures
