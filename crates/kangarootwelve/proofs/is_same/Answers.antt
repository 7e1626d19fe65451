use mathlib.Core.Path.{sym}
use Rattle.kangarootwelve.proofs.Tags.{same_lengths}
use Rattle.kangarootwelve.proofs.is_same.Goals as goal

pub returns-then-a-b : goal.returns-then-a-b
returns-then-a-b c = let a = c.args in sym (same_lengths a.a.now a.b.now c.if-a-b.true)
