use Rattle.bench.proofs.Absorbed.{begun}
use Rattle.bench.proofs.Hashers.{sha3_hasher}
use Rattle.hasher.specs.Model.{run_with}
use Rattle.bench.proofs.in_place.LentSha3_256TimedRun.begin.Goals as goal

pub returns : goal.returns
returns c = begun sha3_hasher (run_with c.fresh.result.lanes c.fresh.result.at) c.fresh.ensures
