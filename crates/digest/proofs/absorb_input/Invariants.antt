-- `digest::absorb_input` meets its contract.
-- Assumes nothing.
use Rattle.digest.specs.Digest.{Absorbed}
use Rattle.digest.proofs.absorb_input.Given as goal

abbrev pub invariant-loop : goal.invariant-loop
invariant-loop g l = Absorbed l.hasher.run
