use mathlib.Core.Path.{refl, sym, ◌∙◌}
use Prim.Native.Nat.{◌+◌, ◌*◌, ◌/◌, ◌≤◌}
use native.Mathlib.Omega.{arith}
use lib.ListN.{length}
use Rattle.sponge.proofs.Abreast.{words-none, words_step, words_all}
use Rattle.sponge.proofs.four.xor_words.Goals as goal

pub loop-q-init : goal.loop-q-init
loop-q-init c = words-none _ _ _ _ _ c.requires.0

pub xor_lanes-requires : goal.xor_lanes-requires
xor_lanes-requires c =
    (c.loop-q.invariant.words, omega (arith, c.loop-q-test.true), omega (arith, c.loop-q-test.true), omega arith)

pub loop-q-preserved : goal.loop-q-preserved
loop-q-preserved c =
    let a = c.args in
    let more : 8 * c.loop-q.q + 8 ≤ a.count = omega (arith, c.loop-q-test.true, c.requires.2) in
    words_step a.strings.now (length a.strings.now / 4) a.from a.count c.requires.3 (omega arith) a.states.now c.loop-q.states _ c.loop-q.q
    (λ n. omega (arith, c.shared_slice_known-1.given n)) more c.loop-q.invariant c.xor_lanes.ensures

pub shape_of-states : goal.shape_of-states
shape_of-states c = c.loop-q.invariant.words ∙ sym c.requires.0

pub returns : goal.returns
returns c =
    let a = c.args in
    words_all a.strings.now (length a.strings.now / 4) a.from a.count c.requires.3 (omega arith) a.states.now c.loop-q.states c.loop-q.q refl (omega (arith, c.loop-q-test.false, c.requires.2)) c.loop-q.invariant
