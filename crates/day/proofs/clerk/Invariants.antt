-- `day::clerk` meets its contract. The invariant: the message of the events so far stands at the beginning.
-- Assumes nothing.
use Rattle.std.proofs.Common.{◌≡◌, ◌≤◌, ◌+◌, length, map, take, sum_by}
use Rattle.journal.specs.Published.{message}
use Rattle.day.proofs.clerk.Given as goal

abbrev pub invariant-loop-event : goal.invariant-loop-event
invariant-loop-event g l =
    (l.end ≤ sum_by (λ event. length event.now + 9) (take l.event-index l.events))
    × (length l.day ≡ length l.fn.day)
    × (take l.end l.day ≡ message (map (λ event. event.now) (take l.event-index l.events)))
