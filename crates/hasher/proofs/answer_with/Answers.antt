use mathlib.Core.Path.{ap}
use Rattle.hasher.specs.declared.Run.{Run}
use Rattle.hasher.specs.declared.Answer.{Answer}
use Rattle.hasher.proofs.answer_with.Goals as goal

pub returns : goal.returns
returns c = ap {B = Answer} (λ (r : Run). record { run = r; status = c.args.moved.status }) c.run_with-run.ensures
