use mathlib.Core.Path.{ap, ◌∙◌}
use lib.ListN.{length}
use Rattle.sponge.specs.Transcript.{Call.squeeze}
use Rattle.journal.specs.Inside.{as_day}
use Rattle.journal.proofs.Cases.{call-answer, squeeze_output_lem}
use Rattle.journal.proofs.Journal.squeeze.Goals as goal

pub returns : goal.returns
returns c =
    let a = c.args in record {
      value = c.into.ensures ∙ ap as_day c.squeeze.ensures.value ∙ call-answer a.self.run (squeeze (length a.out.now)) tt;
      out_after = c.squeeze.ensures.out_after ∙ squeeze_output_lem a.self.run a.out.now;
    }
