use Rattle.kangarootwelve.proofs.Numbers.{open_count_is}
use Rattle.kangarootwelve.proofs.totals.open_count.Goals as goal

pub returns : goal.returns
returns c = open_count_is c.args.strength.rate c.args.n c.if-n-eq0.false
