use mathlib.Core.Path.{◌∙◌}
use Rattle.sponge.specs.Model.{Sponge, Outcome}
use Rattle.sp800_185.proofs.Prefixes.{absorbed, string-absorbed}
use Rattle.sp800_185.proofs.encode.absorb_string.Goals as goal

pub returns : goal.returns
returns c =
    let a = c.args in
    let b = c.absorb_left-next in
    let s : Sponge = record { value = a.lanes.now; position = a.position } in
    let t : Sponge = record { value = b.new.lanes; position = b.result } in
    let x = a.s.now in
    let o : Outcome = record { status = c.absorb-taken.result.status; state = record { value = c.absorb-taken.new.lanes; position = c.absorb-taken.result.position } } in
    let is = absorbed a.rate c.requires.rate_nonzero.0 c.requires.rate_nonzero.1 t x o b.ensures.upper_bound c.absorb-taken.ensures in record {
      result_after = is.0 ∙ string-absorbed a.rate c.requires.rate_nonzero.0 c.requires.rate_nonzero.1 s t x b.ensures.result_after;
      upper_bound = is.1;
    }
