use Rattle.kangarootwelve.proofs.Mac.{gathered}
use Rattle.kangarootwelve.proofs.hopmac.gather.Goals as goal

pub returns : goal.returns
returns c = let a = c.args in gathered a.difference a.x a.y
