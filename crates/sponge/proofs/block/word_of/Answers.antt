use mathlib.Core.Path.{ap, ◌∙◌}
use native.Mathlib.Omega.{arith}
use lib.Seq.{take_all}
use Rattle.keccak.specs.State.{word}
use Rattle.sponge.proofs.Words.{word_parts}
use Rattle.sponge.proofs.block.word_of.Goals as goal

pub returns-then-s-lt8 : goal.returns-then-s-lt8
returns-then-s-lt8 c =
    let a = c.args in
    omega (arith, word_parts a.s.now 4 (omega arith))

pub returns : goal.returns
returns c =
    let a = c.args in
    c.word_at.ensures ∙ ap word (take_all 8 a.s.now (omega arith))
