use native.Mathlib.Omega.{arith}
use Rattle.sp800_185.proofs.Blocks.{right_most}
use Rattle.sp800_185.proofs.Lengths.{says_some}
use Rattle.sp800_185.proofs.counts.ending_length.Goals as goal

pub returns-in_default : goal.returns-in_default
returns-in_default c =
    let a = c.args in
    let e = c.right_length.ensures in
    (rw (says_some a.numbers.closing c.in_default.not-Nothing) e, rw e (omega (arith, right_most a.said c.requires)))
