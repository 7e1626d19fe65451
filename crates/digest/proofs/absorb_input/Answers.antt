-- `digest::absorb_input` meets its contract: the empty message left the run with which the loop begins.
-- Assumes nothing.
use Rattle.digest.proofs.Pieces.{fresh_absorbed}
use Rattle.digest.proofs.absorb_input.Goals as goal

pub loop-init : goal.loop-init
loop-init g c = fresh_absorbed c.fresh-hasher.result.run c.fresh-hasher.ensures
