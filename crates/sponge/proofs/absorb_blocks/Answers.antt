use mathlib.Core.Path.{◌≡◌, ap, ◌∙◌}
use mathlib.Core.List.{List}
use Prim.Native.Nat.{ℕ, ◌+◌, ◌<◌, ◌≤◌}
use native.Mathlib.Omega.{arith}
use lib.ListN.{length, take, drop}
use Rattle.keccak.specs.Permutation.{last_rounds}
use Rattle.sponge.specs.Cut.{puts}
use Rattle.sponge.specs.Published.{xor_byte}
use Rattle.sponge.specs.Model.{absorb_bytes}
use Rattle.sponge.proofs.Blocks.{absorb_part}
use Rattle.sponge.proofs.absorb_blocks.Goals as goal

pub loop-rest-preserved : goal.loop-rest-preserved
loop-rest-preserved c =
    let a = c.args in
    let r = c.next_position-at in
    let l = c.loop-rest in
    let k : ℕ = c.min.result in
    let s : List ℕ = l.rest.now in
    let some : 0 < length s = omega arith in
    let room : r.result + k ≤ a.rate = omega arith in
    let within : 0 + k ≤ length s = omega arith in
    let n : length c.split_at.result.0.now ≡ k = c.split_at.ensures.front_len in
    let e : k ≡ 0 + k = omega arith in (
      omega arith,
      ap (λ (m : List ℕ). absorb_bytes (last_rounds a.rounds) a.rate (record { value = m; position = r.result + length c.split_at.result.0.now }) c.split_at.result.1.now) c.xor_part.ensures
          ∙ ap (λ (t : List ℕ). absorb_bytes (last_rounds a.rounds) a.rate (record { value = puts xor_byte r.new.lanes r.result t; position = r.result + length c.split_at.result.0.now }) c.split_at.result.1.now) c.split_at.ensures.front
          ∙ ap (λ (x : ℕ). absorb_bytes (last_rounds a.rounds) a.rate (record { value = puts xor_byte r.new.lanes r.result (take k s); position = r.result + x }) c.split_at.result.1.now) n
          ∙ ap (λ (t : List ℕ). absorb_bytes (last_rounds a.rounds) a.rate (record { value = puts xor_byte r.new.lanes r.result (take k s); position = r.result + k }) t) (c.split_at.ensures.back ∙ ap (λ (x : ℕ). drop x s) e)
          ∙ absorb_part (last_rounds a.rounds) a.rate (record { value = l.lanes; position = l.p }) r.new.lanes r.result r.ensures.result_after r.ensures.upper_bound s 0 k some room within
          ∙ l.invariant.1,
    )
