use lib.ListN.{length-set}
use native.Mathlib.Omega.{arith}
use Rattle.sponge.proofs.Output.{write_step}
use Rattle.sponge.proofs.block.read_bytes.Goals as goal

pub loop-i-preserved : goal.loop-i-preserved
loop-i-preserved c =
    let a = c.args in
    let l = c.loop-i in
    (simp length-set l.invariant.0, write_step a.lanes.now l.out a.at l.i c.byte_of.result (omega arith) c.byte_of.ensures l.invariant.1)
