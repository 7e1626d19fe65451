use Rattle.bench.proofs.Absorbed.{begun}
use Rattle.bench.proofs.Hashers.{shake_hasher}
use Rattle.bench.proofs.fips.Shake128TimedRun.begin.Goals as goal

pub returns : goal.returns
returns c = begun shake_hasher c.fresh.result.run c.fresh.ensures
