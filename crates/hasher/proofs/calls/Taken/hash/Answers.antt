use mathlib.Core.Path.{sym, ◌∙◌}
use Rattle.sponge.specs.Model.{Outcome}
use Rattle.hasher.proofs.OneGo.{hash-refused, hash-written, row_done, row_written}
use Rattle.hasher.proofs.calls.Taken.hash.Goals as goal

pub returns-then-number-ne-DONE : goal.returns-then-number-ne-DONE
returns-then-number-ne-DONE c =
    let a = c.args in
    let s = c.hash_status-number in record {
      value = s.ensures;
      out_after = hash-refused a.self.rate a.self.rounds a.self.limit a.message.now a.refusal a.last a.out.now (λ e. c.if-number-ne-DONE.true (s.ensures ∙ e));
    }

pub returns : goal.returns
returns c =
    let a = c.args in
    let z = c.squeeze-squeezed in
    let y = c.pad-padded in
    let x = c.absorb-absorbed in
    let s = c.hash_status-number in
    let o : Outcome = record { status = x.result.status; state = record { value = x.new.lanes; position = x.result.position } } in
    let p : Outcome = record { status = y.result.status; state = record { value = y.new.lanes; position = y.result.position } } in
    let q : Outcome = record { status = z.result.status; state = record { value = z.new.lanes; position = z.result.position } } in
    let e = sym s.ensures ∙ c.if-number-ne-DONE.false in
    let h = a.self.taken in record {
      value = row_done a.self.rate h.0 h.1 a.self.rounds h.2 a.message.now a.last a.out.now o p q z.new.out x.ensures y.ensures z.ensures.position_after z.ensures.out_after ∙ sym e;
      out_after = row_written a.self.rate h.0 h.1 a.self.rounds h.2 a.message.now a.last a.out.now o p q z.new.out x.ensures y.ensures z.ensures.position_after z.ensures.out_after
          ∙ hash-written a.self.rate a.self.rounds a.self.limit a.message.now a.refusal a.last a.out.now e;
    }
