-- `day::shift` meets its contract: each event is appended to the day that has taken those before it, and the day is ended and read.
-- Assumes nothing.
use mathlib.Core.Path.{refl, sym, ap, ap₂, ◌∙◌}
use lib.Seq.{take_all}
use Rattle.std.proofs.Common.{rules, arith, ◌≤◌, length, take, List, ℕ, Bor}
use Rattle.journal.specs.Published as published
use Rattle.journal.specs.declared.Answer.{Answer}
use Rattle.day.proofs.Events.{bytes, fresh_took, append_next, digest}
use Rattle.day.proofs.shift.Goals as goal

pub loop-event-init : goal.loop-event-init
loop-event-init g c = fresh_took c.fresh-day.result c.fresh-day.ensures

pub loop-event-preserved : goal.loop-event-preserved
loop-event-preserved g c =
    let l = c.loop-event in
    append_next c.args.events.now l.event-index c.loop-event-test.true l.day (record { journal = c.in_ok-day.day; status = 0 }) l.invariant
    (sym c.in_ok-day.ensures) refl

pub returns : goal.returns
returns g c =
    let a = c.args in
    let l = c.loop-event in
    let q = c.squeeze in
    let ended : Answer = record { journal = c.in_ok-ended.ended; status = 0 } in
    let all : length a.events.now ≤ l.event-index = omega (arith, c.loop-event-test.false) in
    digest l.day (bytes (take l.event-index a.events.now)) a.name.now _ ended 0 q.new.out l.invariant (sym c.in_ok-ended.ensures.ok ∙ c.finalize.ensures) refl
    (ap (λ (x : Answer). x.status) (sym c.in_ok-taken.ensures.ok ∙ q.ensures.value)) q.ensures.out_after refl
    ∙ ap₂ (λ (x : List (Bor (List ℕ))) (n : ℕ). published.digest (bytes x) a.name.now n) (take_all l.event-index a.events.now all) (search rules)
