use mathlib.Core.Path.{ap, ◌∙◌}
use lib.ListN.{length}
use Rattle.hasher.specs.Model.{hash_status, hash_output}
use Rattle.hasher.specs.declared.Numbers.{Numbers}
use Rattle.hasher.proofs.OneGo.{at_refused, at_untouched, at_status, at_output}
use Rattle.hasher.proofs.hash.Goals as goal

pub returns-in-Ok : goal.returns-in-Ok
returns-in-Ok c =
    let a = c.args in
    let n = a.numbers in
    let e = c.in-Ok.ensures.taken in record {
      value = c.hash.ensures.value ∙ ap (λ (k : Numbers). hash_status k.limit (length a.message.now) a.refusal (length a.out.now)) e.0 ∙ at_status n.rate n.rounds n.limit a.message.now a.refusal a.last a.out.now e.1;
      out_after = c.hash.ensures.out_after ∙ ap (λ (k : Numbers). hash_output k.rate k.rounds k.limit a.message.now a.refusal a.last a.out.now) e.0
          ∙ at_output n.rate n.rounds n.limit a.message.now a.refusal a.last a.out.now e.1;
    }

pub returns-in-Err : goal.returns-in-Err
returns-in-Err c =
    let a = c.args in
    let n = a.numbers in
    let e = c.in-Err.ensures.refused in record {
      value = at_refused n.rate n.rounds n.limit a.message.now a.refusal a.last a.out.now c.in-Err.of_numbers.status e.1 e.0;
      out_after = at_untouched n.rate n.rounds n.limit a.message.now a.refusal a.last a.out.now c.in-Err.of_numbers.status e.1 e.0;
    }
