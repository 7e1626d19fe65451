use Rattle.abreast.proofs.Four.{Upto}
use Rattle.sponge.specs.Published.{xor_byte}
use Rattle.kangarootwelve.proofs.leaves.xor_bytes.Given as goal

abbrev pub invariant-loop-j : goal.invariant-loop-j
invariant-loop-j l = Upto l.j (λ _ lanes. xor_byte lanes l.at l.b) l.initial.states l.states
