use native.Mathlib.Omega.{arith}
use Rattle.sp800_185.proofs.Prefixes.{started_few, kmac-started}
use Rattle.sp800_185.proofs.prefix.kmac_start.Goals as goal

pub overflow_add-next : goal.overflow_add-next
overflow_add-next c =
    let a = c.args in
    omega (arith, started_few a.rate c.requires.0 c.requires.1 _ a.string.now c.cshake_start-run.result c.cshake_start-run.ensures (omega arith) c.requires.3)

pub returns : goal.returns
returns c =
    let b = c.padded_blocks-blocks in
    let x = c.encoded_length in
    let u = c.absorb_string in
    let t = c.absorb_left-first in
    let a = c.args in
    kmac-started a.rate c.requires.0 a.key.now a.string.now c.cshake_start-run.result
    (record { value = t.new.lanes; position = t.result })
    (record { value = u.new.lanes; position = u.result })
    x.result
    b.result
    c.cshake_start-run.ensures
    t.ensures.result_after
    u.ensures.result_after
    x.ensures.0
    b.ensures.0
