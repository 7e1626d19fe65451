use Rattle.bench.proofs.Absorbed.{fits, long}
use Rattle.bench.proofs.StartedHashers.{cshake_hasher}
use Rattle.bench.proofs.keyed.CShake128TimedRun.feed.Goals as goal

pub returns-clause-fits : goal.returns-clause-fits
returns-clause-fits c =
    let x = c.absorb-answered in
    fits cshake_hasher (record { run = c.args.self.now.run; shake = c.args.self.now.shake }) c.args.piece.now (record { customized = record { run = x.result.hasher.run; shake = x.result.hasher.shake }; status = x.result.status }) x.ensures c.accepted.result c.accepted.ensures

pub returns-clause-long : goal.returns-clause-long
returns-clause-long c =
    let x = c.absorb-answered in
    long cshake_hasher (record { run = c.args.self.now.run; shake = c.args.self.now.shake }) c.args.piece.now (record { customized = record { run = x.result.hasher.run; shake = x.result.hasher.shake }; status = x.result.status }) x.ensures c.accepted.result c.accepted.ensures
