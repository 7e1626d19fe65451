-- `hexadecimal::put` meets its contract. The loop's invariant: the digits that are left, stored, give what all of them give, stored into the
-- text of the beginning.
-- Assumes nothing.
use mathlib.Core.Path.{◌≡◌, sym, ◌∙◌}
use mathlib.Core.Bool.{false}
use native.Mathlib.Omega.{arith}
use lib.ListN.{length}
use borrow.Author.Tests.{leb-false}
use Rattle.hexadecimal.specs.Hex.{fits}
use Rattle.hexadecimal.proofs.Stores.{put-end, put_all, put-none}
use Rattle.hexadecimal.proofs.put.Goals as goal

pub returns-then-not-has_room-clause-text_after : goal.returns-then-not-has_room-clause-text_after
returns-then-not-has_room-clause-text_after c =
    let a = c.args in
    let none : fits (length a.text.now) a.at (length a.bytes.now) ≡ false =
    sym c.has_room.ensures ∙ c.if-not-has_room.true in
    put-none a.text.now a.at a.bytes.now (leb-false _ _ none)

pub returns-clause-text_after : goal.returns-clause-text_after
returns-clause-text_after c =
    let l = c.loop-i in
    let a = c.args in
    let end = put-end l.text a.at a.bytes.now l.i (omega arith) in
    sym end ∙ l.invariant.3 ∙ put_all a.text.now a.at a.bytes.now l.invariant.0
