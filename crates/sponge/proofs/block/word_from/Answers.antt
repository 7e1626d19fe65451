use native.Mathlib.Omega.{arith}
use Rattle.sponge.proofs.Words.{digits_at, rest_sum, first_digit}
use Rattle.sponge.proofs.block.word_from.Goals as goal

pub returns-then-n-eq0 : goal.returns-then-n-eq0
unfolding digits_at
returns-then-n-eq0 c =
    let a = c.args in
    (omega (arith, rest_sum 0 a.s.now a.i (omega arith)), omega arith)

pub returns-then-n-eq1 : goal.returns-then-n-eq1
unfolding digits_at
returns-then-n-eq1 c =
    let a = c.args in
    (omega (arith, rest_sum 1 a.s.now a.i (omega arith), first_digit a.s.now a.i), omega arith)

pub returns-then-n-eq2 : goal.returns-then-n-eq2
unfolding digits_at
returns-then-n-eq2 c =
    let a = c.args in
    (omega (arith, rest_sum 2 a.s.now a.i (omega arith), first_digit a.s.now a.i), omega arith)

pub returns : goal.returns
unfolding digits_at
returns c =
    let a = c.args in
    (omega (arith, rest_sum 3 a.s.now a.i (omega arith), first_digit a.s.now a.i), omega arith)
