use mathlib.Core.Path.{◌≡◌, ap, sym, ◌∙◌}
use lib.ListN.{length}
use Rattle.sponge.specs.Model.{Sponge, call_status, Outcome}
use Rattle.sponge.specs.declared.Answer.{Answer}
use Rattle.sponge.proofs.Valid.{taken-fits, squeeze-refused, squeeze_done, output-refused, output_done}
use Rattle.sponge.proofs.squeeze.Goals as goal

pub returns-then-refusal-ne-DONE : goal.returns-then-refusal-ne-DONE
returns-then-refusal-ne-DONE c =
    let a = c.args in
    let s : Sponge = record { value = a.lanes.now; position = a.position } in
    let s5 = c.call_status-refusal in
    let o = ap {B = Outcome} (λ (x : Answer). record { status = x.status; state = record { value = a.lanes.now; position = x.position } }) c.refused.ensures in record {
      position_after = o ∙ (squeeze-refused a.rounds a.rate s s5.result c.if-refusal-ne-DONE.true s5.ensures (length a.out.now));
      out_after = (output-refused a.rounds a.rate s s5.result c.if-refusal-ne-DONE.true s5.ensures a.out.now);
    }

pub squeeze_blocks-read-requires : goal.squeeze_blocks-read-requires
squeeze_blocks-read-requires c =
    let was : (call_status c.args.rounds c.args.rate c.args.position ≡ 0) = (sym c.call_status-refusal.ensures ∙ c.if-refusal-ne-DONE.false) in
    taken-fits _ _ _ (was)

pub returns : goal.returns
returns c =
    let was : (call_status c.args.rounds c.args.rate c.args.position ≡ 0) = (sym c.call_status-refusal.ensures ∙ c.if-refusal-ne-DONE.false) in
    let a = c.args in
    let s : Sponge = record { value = a.lanes.now; position = a.position } in
    let r = c.squeeze_blocks-read in
    let e = was in record {
      position_after = ap (λ (t : Sponge). record { status = 0; state = t }) r.ensures.result_after ∙ sym (squeeze_done a.rounds a.rate s e (length a.out.now));
      out_after = r.ensures.out_after ∙ sym (output_done a.rounds a.rate s e a.out.now);
    }
