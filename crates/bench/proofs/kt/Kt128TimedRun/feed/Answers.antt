use Rattle.bench.proofs.Absorbed.{fits, long}
use Rattle.bench.proofs.Hashers.{kt128_hasher}
use Rattle.bench.proofs.kt.Kt128TimedRun.feed.Goals as goal

pub returns-clause-fits : goal.returns-clause-fits
returns-clause-fits c =
    let x = c.absorb-answered in
    fits kt128_hasher c.args.self.now.run c.args.piece.now (record { run = x.result.hasher.run; status = x.result.status }) x.ensures c.accepted.result c.accepted.ensures

pub returns-clause-long : goal.returns-clause-long
returns-clause-long c =
    let x = c.absorb-answered in
    long kt128_hasher c.args.self.now.run c.args.piece.now (record { run = x.result.hasher.run; status = x.result.status }) x.ensures c.accepted.result c.accepted.ensures
