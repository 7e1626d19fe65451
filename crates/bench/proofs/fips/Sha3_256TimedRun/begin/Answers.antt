use Rattle.bench.proofs.Absorbed.{begun}
use Rattle.bench.proofs.Hashers.{sha3_hasher}
use Rattle.bench.proofs.fips.Sha3_256TimedRun.begin.Goals as goal

pub returns : goal.returns
returns c = begun sha3_hasher c.fresh.result.run c.fresh.ensures
