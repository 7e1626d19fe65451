use mathlib.Core.Path.{◌≡◌, ap, ◌∙◌}
use Prim.Native.Nat.{ℕ, ◌+◌, ◌*◌, ◌≤◌}
use native.Mathlib.Omega.{arith}
use lib.ListN.{length}
use Rattle.sponge.specs.Cut.{puts}
use Rattle.sponge.specs.Published.{xor_byte}
use Rattle.sponge.proofs.Words.{word_turn}
use Rattle.sponge.proofs.block.xor_words.Goals as goal

pub loop-q-init : goal.loop-q-init
loop-q-init c =
    let e : 8 * (c.args.first + 0) ≡ 8 * c.args.first = omega arith in
    ap (λ (p : ℕ). puts xor_byte c.args.lanes.now p c.args.s.now) e

pub loop-q-preserved : goal.loop-q-preserved
loop-q-preserved c =
    let a = c.args in
    let q = c.loop-q.q in
    let room : 8 * q + 8 ≤ length a.s.now = omega arith in
    word_turn c.loop-q.lanes a.s.now a.first q c.word_at.result room (λ j. omega (arith, c.shared_slice_known-1.given j)) c.word_at.ensures ∙ c.loop-q.invariant
