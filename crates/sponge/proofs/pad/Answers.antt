use mathlib.Core.Path.{◌≡◌, ap, sym, ◌∙◌}
use Rattle.sponge.specs.Model.{Sponge, call_status, Outcome}
use Rattle.sponge.specs.declared.Answer.{Answer}
use Rattle.sponge.proofs.Valid.{taken-fits, pad-refused, pad_done}
use Rattle.sponge.proofs.pad.Goals as goal

pub returns-then-refusal-ne-DONE : goal.returns-then-refusal-ne-DONE
returns-then-refusal-ne-DONE c =
    let a = c.args in
    let s : Sponge = record { value = a.lanes.now; position = a.position } in
    let s5 = c.call_status-refusal in
    let o = ap {B = Outcome} (λ (x : Answer). record { status = x.status; state = record { value = a.lanes.now; position = x.position } }) c.refused.ensures in
    o ∙ (pad-refused a.rounds a.rate s s5.result c.if-refusal-ne-DONE.true s5.ensures a.last)

pub pad_block-requires : goal.pad_block-requires
pad_block-requires c =
    let was : (call_status c.args.rounds c.args.rate c.args.position ≡ 0) = (sym c.call_status-refusal.ensures ∙ c.if-refusal-ne-DONE.false) in
    taken-fits _ _ _ (was)

pub returns : goal.returns
returns c =
    let was : (call_status c.args.rounds c.args.rate c.args.position ≡ 0) = (sym c.call_status-refusal.ensures ∙ c.if-refusal-ne-DONE.false) in
    let a = c.args in
    ap (λ (t : Sponge). record { status = 0; state = t }) c.pad_block.ensures
    ∙ sym (pad_done a.rounds a.rate (record { value = a.lanes.now; position = a.position }) (was) a.last)
