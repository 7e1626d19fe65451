-- `day::clerk` meets its contract: each event, with its length encoding, stands after those before it, and what is hashed is the day's message.
-- Assumes nothing.
use mathlib.Core.Path.{ap₂, ◌∙◌}
use lib.Seq.{take_all}
use Rattle.std.proofs.Common.{rules, arith, ◌≤◌, ◌+◌, length, take, Bor, ℕ, List, []}
use Rattle.std.proofs.lemmas.List.Sums.{sum_by_more}
use Rattle.journal.specs.Published as published
use Rattle.day.proofs.Events.{bytes, put_more, hash-message}
use Rattle.day.proofs.clerk.Goals as goal

pub loop-event-preserved : goal.loop-event-preserved
loop-event-preserved g c =
    let events = c.args.events.now in
    let l = c.loop-event in
    let put = c.put_event-end.ensures in
    let room = sum_by_more (λ (event : Bor (List ℕ)). length event.now + 9) events l.event-index (record { ref_ptr = (0, 0); now = [] }) c.loop-event-test.true in (
      omega (arith, room, put.upper_bound, l.invariant.0),
      search rules,
      put_more events l.event-index c.loop-event-test.true l.invariant.2 put.day_after,
    )

pub returns : goal.returns
returns g c =
    let a = c.args in
    let l = c.loop-event in
    let h = c.hash in
    let all : length a.events.now ≤ l.event-index = omega (arith, c.loop-event-test.false) in
    hash-message (take l.end l.day) a.name.now _ h.result h.new.out (bytes (take l.event-index a.events.now)) l.invariant.2 h.ensures.value h.ensures.out_after
    c.in_ok-answered.ensures.ok
    ∙ ap₂ (λ (x : List (Bor (List ℕ))) (n : ℕ). published.digest (bytes x) a.name.now n) (take_all l.event-index a.events.now all) (search rules)
