use Rattle.hasher.proofs.Cases.{count_suc}
use Rattle.hasher.proofs.calls.Taken.open_count.Goals as goal

pub returns : goal.returns
returns c = count_suc c.args.self.rate c.args.n c.if-n-eq0.false
