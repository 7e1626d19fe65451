use mathlib.Core.Path.{sym}
use Rattle.sponge.proofs.FirstStatus.{first_refused, first_done}
use Rattle.journal.proofs.long_status.Goals as goal

pub returns-then-tried-ne-DONE : goal.returns-then-tried-ne-DONE
returns-then-tried-ne-DONE c = sym (first_refused c.args.tried 8 c.if-tried-ne-DONE.true)

pub returns : goal.returns
returns c = sym (first_done c.args.tried 8 c.if-tried-ne-DONE.false)
