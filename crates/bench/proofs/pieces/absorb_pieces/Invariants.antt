-- The loop's invariant: the run has absorbed what the pieces still to come leave of the message.
-- Assumes nothing.
use Rattle.std.proofs.Common.{◌≡◌, List, ℕ, ◌++◌, ◌≤◌, length}
use Rattle.std.specs.Slice.Iter.{chunks_rest, chunks_size}
use Rattle.hasher.specs.Function.{message_limit}
use Rattle.bench.proofs.pieces.absorb_pieces.Given as goal

abbrev pub invariant-loop-piece : goal.invariant-loop-piece
invariant-loop-piece g l =
    (m : List ℕ)
    × (l.message ≡ m ++ chunks_rest l.piece-iterator)
    × (length m ≤ message_limit)
    × g.R.TimedRun.has_absorbed l.run m
    × (chunks_size l.piece-iterator ≡ l.step)
