-- The loop's invariant: the states are those at entry, permuted as often as the loop went round.
-- Assumes nothing.
use mathlib.Core.Path.{◌≡◌}
use lib.ListN.{length}
use Rattle.bench.specs.Repeat.{repeated_four}
use Rattle.bench.proofs.four.bench_permute_four.Given as goal

abbrev pub invariant-loop : goal.invariant-loop
invariant-loop l = (length l.states ≡ length l.initial.states) × (l.states ≡ repeated_four l.counter l.initial.states)
