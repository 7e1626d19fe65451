use Rattle.bench.proofs.Absorbed.{begun}
use Rattle.bench.proofs.StartedHashers.{cshake_hasher}
use mathlib.Core.Path.{ap}
use Rattle.sp800_185.specs.Cshake.{CustomizedAnswer}
use Rattle.bench.proofs.keyed.CShake128TimedRun.begin.Goals as goal

pub returns : goal.returns
returns c = begun cshake_hasher (record { run = c.start.result.hasher.run; shake = c.start.result.hasher.shake }) (ap (λ (x : CustomizedAnswer). x.customized) c.start.ensures)
