use mathlib.Core.Path.{sym, ap, ◌∙◌}
use Prim.Native.Nat.{ℕ}
use Rattle.sponge.specs.Transcript.{Call.absorb}
use Rattle.kangarootwelve.specs.Model.{Answer, answer_of}
use Rattle.journal.specs.Inside.{as_day}
use Rattle.journal.proofs.Cases.{first_refused, second-refused, both_done}
use Rattle.journal.proofs.absorb_both.Goals as goal

pub returns-then-one-ne-DONE : goal.returns-then-one-ne-DONE
returns-then-one-ne-DONE c =
    let a = c.args in
    let one = ap (λ (x : Answer). x.status) c.absorb-one.ensures in
    c.refused.ensures
    ∙ ap (λ (n : ℕ). record { journal = record { run = a.given }; status = n }) one
    ∙ first_refused a.given a.first.now a.second.now (λ z. c.if-one-ne-DONE.true (one ∙ z))

pub returns-then-both-ne-DONE : goal.returns-then-both-ne-DONE
returns-then-both-ne-DONE c =
    let a = c.args in
    let one = c.absorb-one.ensures in
    let both = ap (λ (x : Answer). x.status) (c.absorb-both.ensures ∙ ap (λ (x : Answer). answer_of 168 32 x.run (absorb a.second.now)) one) in
    c.refused-then-both-ne-DONE.ensures
    ∙ ap (λ (n : ℕ). record { journal = record { run = a.given }; status = n }) both
    ∙ second-refused a.given a.first.now a.second.now (sym (ap (λ (x : Answer). x.status) one) ∙ c.if-one-ne-DONE.false) (λ z. c.if-both-ne-DONE.true (both ∙ z))

pub returns : goal.returns
returns c =
    let a = c.args in
    let one = c.absorb-one.ensures in
    let both = c.absorb-both.ensures ∙ ap (λ (x : Answer). answer_of 168 32 x.run (absorb a.second.now)) one in
    c.into.ensures ∙ ap as_day both
    ∙ both_done a.given a.first.now a.second.now (sym (ap (λ (x : Answer). x.status) one) ∙ c.if-one-ne-DONE.false)
    (sym (ap (λ (x : Answer). x.status) both) ∙ c.if-both-ne-DONE.false)
