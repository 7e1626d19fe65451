use mathlib.Core.Path.{ap, ◌∙◌}
use mathlib.Core.List.{List}
use Prim.Native.Nat.{ℕ, ◌-◌}
use Rattle.keccak.specs.Permutation.{last_rounds}
use Rattle.sponge.specs.Published.{xor_byte}
use Rattle.sponge.proofs.Blocks.{pad_part}
use Rattle.sponge.proofs.pad_block.Goals as goal

pub returns : goal.returns
returns c =
    let a = c.args in
    let q = c.next_position-at in
    ap (λ (m : List ℕ). record { value = m; position = 0 })
    (c.permute_in_place.ensures.lanes_after
    ∙ ap (last_rounds a.rounds) (c.xor_byte-2.ensures ∙ ap (λ (m : List ℕ). xor_byte m (a.rate - 1) 0x80) c.xor_byte.ensures))
    ∙ pad_part (last_rounds a.rounds) a.rate (record { value = a.lanes.now; position = a.position }) q.new.lanes q.result q.ensures.result_after q.ensures.upper_bound a.last
