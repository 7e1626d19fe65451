use mathlib.Core.Path.{refl}
use Rattle.kangarootwelve.proofs.calls.absorbed.Goals as goal

pub returns : goal.returns
returns c = refl
