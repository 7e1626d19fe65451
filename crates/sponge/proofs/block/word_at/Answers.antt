use native.Mathlib.Omega.{arith}
use Rattle.sponge.proofs.Words.{digits_at, word_sum, first_digit}
use Rattle.sponge.proofs.block.word_at.Goals as goal

pub returns : goal.returns
unfolding digits_at
returns c =
    let a = c.args in
    omega (arith, c.from_le_bytes.ensures, word_sum 8 a.s.now a.i (omega arith), first_digit a.s.now a.i)
