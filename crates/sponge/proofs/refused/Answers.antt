use mathlib.Core.Path.{refl}
use Rattle.sponge.proofs.refused.Goals as goal

pub returns : goal.returns
returns c = refl
