use mathlib.Core.Path.{◌≡◌, refl, sym, ◌∙◌}
use Prim.Native.Nat.{◌+◌, ◌≤◌, ◌<◌, ◌%◌}
use native.Mathlib.Omega.{arith}
use Rattle.kangarootwelve.proofs.Abreast.{block_each, left_more, left_all}
use Rattle.kangarootwelve.proofs.leaves.absorb_chunks.Goals as goal

pub xor_block-first-requires : goal.xor_block-first-requires
xor_block-first-requires c = tt

pub loop-i-init : goal.loop-i-init
loop-i-init c =
    let s = c.args.states.now in
    let b = block_each s c.xor_block-first.new.states c.args.chunks.now 0 c.args.strength.rate c.requires.0 c.requires.1 c.args.strength.bounds.1 c.args.strength.bounds.2 (omega arith) c.xor_block-first.ensures.states_after in
    (omega arith, c.args.strength.bounds.2, omega arith, λ h. refl, record { words = b.words; each = λ k h. refl })

pub permute_in_place-full-requires : goal.permute_in_place-full-requires
permute_in_place-full-requires c = tt

pub xor_block-next-requires : goal.xor_block-next-requires
xor_block-next-requires c = tt

pub loop-i-preserved : goal.loop-i-preserved
loop-i-preserved c =
    let rate = c.args.strength.rate in
    let i = c.loop-i.i in
    let n = c.min-p.result in
    let hi : i < 8192 = c.loop-i-test.true in
    let hn : n ≤ rate = omega arith in
    let whole : n % 8 ≡ 0 = omega arith in
    let fits : i + n ≤ 8192 = omega arith in (
      fits,
      omega arith,
      hn,
      λ h. omega arith,
      left_more rate c.args.strength.bounds.0 c.args.strength.bounds.1 c.args.chunks.now c.requires.1 _ c.loop-i.states c.permute_in_place-full.new.states c.xor_block-next.new.states c.loop-i.p i n
          (c.loop-i.invariant.3 hi) hi hn whole fits c.permute_in_place-full.ensures.states_after c.xor_block-next.ensures.states_after c.loop-i.invariant.4,
    )

pub shape_of-states : goal.shape_of-states
shape_of-states c =
    c.loop-i.invariant.4.words ∙ sym c.requires.0

pub returns : goal.returns
returns c =
    record {
      upper_bound = c.loop-i.invariant.2;
      sponges = left_all c.args.strength.rate c.args.strength.bounds.0 c.args.strength.bounds.1 c.args.chunks.now c.requires.1 c.args.states.now c.xor_block-first.new.states c.loop-i.states c.loop-i.p c.loop-i.i
          c.requires.0 c.args.strength.bounds.2 c.xor_block-first.ensures.states_after c.loop-i-test.false c.loop-i.invariant.4;
    }
