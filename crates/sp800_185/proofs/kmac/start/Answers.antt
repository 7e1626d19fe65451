use mathlib.Core.Path.{sym, ◌∙◌}
use lib.ListN.{length}
use Rattle.sp800_185.proofs.Starts.{kmac-fits}
use Rattle.sp800_185.proofs.kmac.start.Goals as goal

pub kmac_start-run-requires : goal.kmac_start-run-requires
kmac_start-run-requires c =
    let h = kmac-fits (length c.args.key.now) (length c.args.string.now) (sym c.start_status-number.ensures ∙ c.if-number-ne-DONE.false) in
    (c.requires.0, c.requires.1, h.0, h.1)
