use mathlib.Core.Path.{◌∙◌}
use borrow.Author.Tests.{eq-eqb, ne_eqb}
use Rattle.kangarootwelve.specs.Published.{chunk}
use Rattle.kangarootwelve.proofs.tree.next_byte.Goals as goal

pub returns-then-at-eq-CHUNK : goal.returns-then-at-eq-CHUNK
unfolding chunk
returns-then-at-eq-CHUNK c =
    let a = c.args in
    c.end_chunk.ensures ∙ rw (eq-eqb a.at.position 8192 c.if-at-eq-CHUNK.true)

pub returns : goal.returns
unfolding chunk
returns c =
    let a = c.args in
    rw (ne_eqb a.at.position 8192 c.if-at-eq-CHUNK.false)
