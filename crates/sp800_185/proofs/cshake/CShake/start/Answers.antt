use mathlib.Core.Path.{sym, ◌∙◌}
use lib.ListN.{length}
use Rattle.sp800_185.proofs.Starts.{cshake-fits}
use Rattle.sp800_185.proofs.cshake.CShake.start.Goals as goal

pub cshake_start-run-requires : goal.cshake_start-run-requires
cshake_start-run-requires g c =
    let r = g.met.Self.CShake.in_range in
    let a = c.args in
    let h = cshake-fits (length a.name.now) (length a.string.now) (sym c.start_status-number.ensures ∙ c.if-number-ne-DONE.false) in
    rw c.RATE.ensures (r.0, r.1, h.0, h.1)
