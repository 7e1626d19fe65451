use Rattle.hasher.specs.Model.{run_with, answered}
use Rattle.bench.proofs.Absorbed.{fits, long}
use Rattle.bench.proofs.Hashers.{sha3_hasher}
use Rattle.bench.proofs.in_place.LentSha3_256TimedRun.feed.Goals as goal

pub returns-clause-fits : goal.returns-clause-fits
returns-clause-fits c =
    let x = c.absorb_in_place-moved in
    fits sha3_hasher (run_with c.args.self.now.lanes c.args.self.now.at) c.args.piece.now (answered x.result x.new.lanes) x.ensures c.accepted.result c.accepted.ensures

pub returns-clause-long : goal.returns-clause-long
returns-clause-long c =
    let x = c.absorb_in_place-moved in
    long sha3_hasher (run_with c.args.self.now.lanes c.args.self.now.at) c.args.piece.now (answered x.result x.new.lanes) x.ensures c.accepted.result c.accepted.ensures
