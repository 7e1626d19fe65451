use Rattle.sponge.specs.Model.{Sponge, Outcome}
use Rattle.sp800_185.specs.Model.{given}
use Rattle.sp800_185.proofs.Prefixes.{absorbed}
use Rattle.sp800_185.proofs.Digest.{sponge_in, row_done, row_written}
use Rattle.sp800_185.proofs.calls.digest.Goals as goal

pub absorb_ending-position-requires : goal.absorb_ending-position-requires
absorb_ending-position-requires c =
    let x = c.absorb-taken in
    let a = c.args in
    let o : Outcome = record { status = x.result.status; state = record { value = x.new.lanes; position = x.result.position } } in
    ((absorbed a.numbers.rate a.numbers.usable.0 a.numbers.usable.1 (sponge_in a.start) a.message.now o c.requires.0 x.ensures).1, c.requires.1)

pub returns : goal.returns
returns c =
    let z = c.squeeze-squeezed in
    let y = c.pad-padded in
    let w = c.absorb_ending-position in
    let x = c.absorb-taken in
    let a = c.args in
    let o : Outcome = record { status = x.result.status; state = record { value = x.new.lanes; position = x.result.position } } in
    let t : Sponge = record { value = w.new.lanes; position = w.result } in
    let p : Outcome = record { status = y.result.status; state = record { value = y.new.lanes; position = y.result.position } } in
    let q : Outcome = record { status = z.result.status; state = record { value = z.new.lanes; position = z.result.position } } in
    let u = a.numbers.usable in record {
      value = row_done (given a.numbers) u.0 u.1 (sponge_in a.start) a.message.now a.out.now a.said o p q t z.new.out c.requires.0 x.ensures w.ensures.result_after w.ensures.upper_bound y.ensures z.ensures.position_after z.ensures.out_after;
      out_after = row_written (given a.numbers) u.0 u.1 (sponge_in a.start) a.message.now a.out.now a.said o p q t z.new.out c.requires.0 x.ensures w.ensures.result_after w.ensures.upper_bound y.ensures z.ensures.position_after z.ensures.out_after;
    }
