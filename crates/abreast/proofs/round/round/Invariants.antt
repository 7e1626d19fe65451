-- `abreast::round::round` meets its contract. The loop's invariant: the states below j went through the round, and the others are as they were.
-- Assumes nothing.
use Rattle.keccak.specs.Round as spec
use Rattle.abreast.proofs.Four.{Upto}
use Rattle.abreast.proofs.round.round.Given as goal

abbrev pub invariant-loop-j : goal.invariant-loop-j
invariant-loop-j l = Upto l.j (λ _. spec.round l.rc) l.initial.a l.a
