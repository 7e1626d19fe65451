use Rattle.bench.proofs.Absorbed.{begun}
use Rattle.bench.proofs.Hashers.{kt128_hasher}
use Rattle.bench.proofs.kt.Kt128TimedRun.begin.Goals as goal

pub returns : goal.returns
returns c = begun kt128_hasher c.fresh.result.run c.fresh.ensures
