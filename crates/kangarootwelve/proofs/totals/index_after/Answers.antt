use Rattle.kangarootwelve.proofs.Cases.{index-suc}
use Rattle.kangarootwelve.proofs.Published.{chunk_is}
use Rattle.kangarootwelve.proofs.totals.index_after.Goals as goal

pub returns : goal.returns
returns c = rw chunk_is (index-suc 8192 c.args.n c.if-n-eq0.false)
