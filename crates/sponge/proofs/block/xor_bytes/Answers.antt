use native.Mathlib.Omega.{arith}
use Rattle.sponge.proofs.Words.{lane-shifted, lanes-shifted}
use Rattle.sponge.proofs.block.xor_bytes.Goals as goal

pub returns-then-at-s-gt8 : goal.returns-then-at-s-gt8
returns-then-at-s-gt8 c =
    let a = c.args in
    let w = c.word_of-w in
    lanes-shifted a.lanes.now a.at _ w.result a.s.now (λ k. omega (arith, c.shared_slice_known-1.given k)) (omega arith) (omega arith) (omega arith) w.ensures

pub returns-else-at-s-gt8 : goal.returns-else-at-s-gt8
returns-else-at-s-gt8 c =
    let a = c.args in
    let w = c.word_of-w in
    lane-shifted a.lanes.now a.at w.result a.s.now (λ k. omega (arith, c.shared_slice_known-1.given k)) (omega arith) w.ensures
