use Rattle.sponge.proofs.Abreast.{Words}
use Rattle.sponge.proofs.four.xor_words.Given as goal

abbrev pub invariant-loop-q : goal.invariant-loop-q
invariant-loop-q l = Words l.strings l.each l.from l.count l.initial.states l.states l.q
