use Rattle.bench.proofs.Absorbed.{fits, long}
use Rattle.bench.proofs.Hashers.{kt_hasher}
use Rattle.bench_abreast.proofs.timed.PlainTimedRun.feed.Goals as goal

pub returns-clause-fits : goal.returns-clause-fits
returns-clause-fits g c =
    let x = c.absorb-answered in
    fits (kt_hasher g.K.Kt.RATE g.K.Kt.CHAINING g.met.K.Kt.bounds.0) (g.K.Kt.run_of c.args.self.now.hasher) c.args.piece.now (record { status = x.result.status; run = g.K.Kt.run_of x.result.hasher }) x.ensures c.accepted.result c.accepted.ensures

pub returns-clause-long : goal.returns-clause-long
returns-clause-long g c =
    let x = c.absorb-answered in
    long (kt_hasher g.K.Kt.RATE g.K.Kt.CHAINING g.met.K.Kt.bounds.0) (g.K.Kt.run_of c.args.self.now.hasher) c.args.piece.now (record { status = x.result.status; run = g.K.Kt.run_of x.result.hasher }) x.ensures c.accepted.result c.accepted.ensures
