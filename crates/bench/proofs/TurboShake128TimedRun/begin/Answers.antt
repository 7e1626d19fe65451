use Rattle.bench.proofs.Absorbed.{begun}
use Rattle.bench.proofs.Hashers.{turbo_hasher}
use Rattle.bench.proofs.TurboShake128TimedRun.begin.Goals as goal

pub returns : goal.returns
returns c = begun turbo_hasher c.fresh.result.run c.fresh.ensures
