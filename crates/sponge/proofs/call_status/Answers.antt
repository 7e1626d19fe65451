use mathlib.Core.Path.{sym, ◌∙◌}
use native.Mathlib.Omega.{arith}
use Rattle.sponge.proofs.Valid.{call_16, call_5, call_0}
use Rattle.sponge.proofs.call_status.Goals as goal

pub returns-then-rounds-gt24 : goal.returns-then-rounds-gt24
returns-then-rounds-gt24 c = call_16 _ _ _ _ (omega arith) (omega arith)

pub returns-then-not-is_valid : goal.returns-then-not-is_valid
returns-then-not-is_valid c = call_5 _ _ _ _ (omega arith) (omega arith) (sym c.is_valid.ensures ∙ c.if-not-is_valid.true)

pub returns : goal.returns
returns c = call_0 _ _ _ _ (omega arith) (omega arith) (sym c.is_valid.ensures ∙ c.if-not-is_valid.false)
