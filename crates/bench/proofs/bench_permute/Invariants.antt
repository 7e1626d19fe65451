-- The loop's invariant: the lanes are those at entry, permuted as often as the loop went round.
-- Assumes nothing.
use mathlib.Core.Path.{◌≡◌}
use Rattle.bench.specs.Repeat.{repeated}
use Rattle.bench.proofs.bench_permute.Given as goal

abbrev pub invariant-loop : goal.invariant-loop
invariant-loop l = l.lanes ≡ repeated l.counter l.initial.lanes
