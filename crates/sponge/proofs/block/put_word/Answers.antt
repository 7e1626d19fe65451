use mathlib.Core.Path.{◌∙◌}
use native.Mathlib.Omega.{arith}
use Rattle.sponge.proofs.Output.{with_word_parts}
use Rattle.sponge.proofs.block.put_word.Goals as goal

pub returns : goal.returns
returns c =
    let a = c.args in
    with_word_parts a.out.now c.copy_from_slice.new.self a.i _ a.w c.requires (omega arith) (c.copy_from_slice.ensures.after ∙ c.to_le_bytes.ensures)
