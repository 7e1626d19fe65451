use Rattle.bench.proofs.Absorbed.{begun}
use Rattle.bench.proofs.Hashers.{kt_hasher}
use Rattle.bench_abreast.proofs.timed.PlainTimedRun.begin.Goals as goal

pub returns : goal.returns
returns g c = begun (kt_hasher g.K.Kt.RATE g.K.Kt.CHAINING g.met.K.Kt.bounds.0) (g.K.Kt.run_of c.fresh.result) c.fresh.ensures
