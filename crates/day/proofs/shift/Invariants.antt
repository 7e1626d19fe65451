-- `day::shift` meets its contract. The invariant: the day has taken the events so far.
-- Assumes nothing.
use Rattle.std.proofs.Common.{map, take}
use Rattle.day.proofs.Events.{Took}
use Rattle.day.proofs.shift.Given as goal

abbrev pub invariant-loop-event : goal.invariant-loop-event
invariant-loop-event g l = Took l.day (map (λ event. event.now) (take l.event-index l.events))
