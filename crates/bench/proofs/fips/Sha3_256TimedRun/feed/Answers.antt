use Rattle.bench.proofs.Absorbed.{fits, long}
use Rattle.bench.proofs.Hashers.{sha3_hasher}
use Rattle.bench.proofs.fips.Sha3_256TimedRun.feed.Goals as goal

pub returns-clause-fits : goal.returns-clause-fits
returns-clause-fits c =
    let x = c.absorb-answered in
    fits sha3_hasher c.args.self.now.run c.args.piece.now (record { run = x.result.hasher.run; status = x.result.status }) x.ensures c.accepted.result c.accepted.ensures

pub returns-clause-long : goal.returns-clause-long
returns-clause-long c =
    let x = c.absorb-answered in
    long sha3_hasher c.args.self.now.run c.args.piece.now (record { run = x.result.hasher.run; status = x.result.status }) x.ensures c.accepted.result c.accepted.ensures
