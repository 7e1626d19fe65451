use mathlib.Core.Path.{sym, ◌∙◌}
use Rattle.hasher.proofs.Guards.{numbers_fit}
use Rattle.hasher.proofs.calls.Taken.of.Goals as goal

pub invariant_of-result : goal.invariant_of-result
invariant_of-result c = record { taken = numbers_fit _ _ (sym c.call_status-number.ensures ∙ c.if-number-ne-DONE.false) }
