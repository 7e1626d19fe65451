use Rattle.std.proofs.Common.{rules}
use Rattle.kangarootwelve.proofs.kt.Kt.squeeze.Goals as goal

pub returns-clause-value : goal.returns-clause-value
returns-clause-value g c = let moved = c.squeeze-moved.ensures.by_index c.run-given.result.leaf.lanes in search rules

pub returns-clause-out_after : goal.returns-clause-out_after
returns-clause-out_after g c = let written = c.squeeze-moved.ensures.by_index_2 c.run-given.result.leaf.lanes in search rules
