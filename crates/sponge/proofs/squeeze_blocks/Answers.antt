use mathlib.Core.Path.{◌≡◌, refl, ap, sym, ◌∙◌}
use mathlib.Core.List.{◌++◌}
use Prim.Native.Nat.{ℕ, ◌+◌, ◌-◌, ◌≤◌, ◌<◌}
use native.Mathlib.Omega.{arith}
use lib.ListN.{length, take, drop, length-drop}
use lib.Seq.{length-take-le}
use Rattle.keccak.specs.Permutation.{last_rounds}
use Rattle.sponge.specs.Published.{bytes_from}
use Rattle.sponge.specs.Model.{Sponge, squeeze_bytes, after_bytes}
use Rattle.sponge.proofs.Published.{squeeze-add, after-add, length-squeeze}
use Rattle.sponge.proofs.Output.{put_part, write_all}
use Rattle.sponge.proofs.Blocks.{squeeze_part, after_part}
use Rattle.sponge.proofs.squeeze_blocks.Goals as goal

pub loop-i-init : goal.loop-i-init
loop-i-init c = (omega arith, refl, omega arith, refl, refl)

pub next_position-at-requires : goal.next_position-at-requires
next_position-at-requires c = (omega arith, omega arith)

pub loop-i-preserved : goal.loop-i-preserved
loop-i-preserved c =
    let first : (Sponge) = (record { value = c.args.lanes.now; position = c.args.position }) in
    let rate = c.args.rate in
    let rounds = c.args.rounds in
    let i = c.loop-i.i in
    let q = c.next_position-at in
    let k = c.min-k.result in
    let r = c.read_part in
    let s : Sponge = record { value = c.loop-i.lanes; position = c.loop-i.p } in
    let g : 0 < k = omega arith in
    let e : i + k - i ≡ k = omega arith in
    let m : length (take (i + k - i) (drop i c.loop-i.out)) ≡ k = length-take-le (i + k - i) (drop i c.loop-i.out) (omega (arith, length-drop i c.loop-i.out)) ∙ e in
    let room : q.result + k ≤ rate = omega arith in (
      omega arith,
      omega arith,
      room,
      sym (after_part (last_rounds rounds) rate s q.new.lanes q.result q.ensures.result_after q.ensures.upper_bound k g room) ∙ ap (after_bytes (last_rounds rounds) rate k) c.loop-i.invariant.3 ∙ sym (after-add (last_rounds rounds) rate (omega arith) i k (first)),
      ap (λ (n : ℕ). take (i + k) (take i c.loop-i.out ++ (r.new.out ++ drop n (drop i c.loop-i.out)))) e
          ∙ put_part (λ n. squeeze_bytes (last_rounds rounds) rate n (first)) c.loop-i.out r.new.out (squeeze_bytes (last_rounds rounds) rate k (after_bytes (last_rounds rounds) rate i (first))) i k (omega arith) c.loop-i.invariant.4
          (r.ensures ∙ ap (bytes_from q.new.lanes q.result) m ∙ sym (squeeze_part (last_rounds rounds) rate s q.new.lanes q.result q.ensures.result_after q.ensures.upper_bound k g room) ∙ ap (squeeze_bytes (last_rounds rounds) rate k) c.loop-i.invariant.3)
          (length-squeeze (last_rounds rounds) rate (omega arith) k (after_bytes (last_rounds rounds) rate i (first)))
          (sym (squeeze-add (last_rounds rounds) rate (omega arith) i k (first))),
    )

pub shape_of-out : goal.shape_of-out
shape_of-out c = c.loop-i.invariant.1

pub returns : goal.returns
returns c =
    let first : (Sponge) = (record { value = c.args.lanes.now; position = c.args.position }) in
    let a = c.args in
    let n : c.loop-i.i ≡ length a.out.now = omega arith in record {
      out_after = write_all (λ n. squeeze_bytes (last_rounds a.rounds) a.rate n (first)) c.loop-i.out c.loop-i.i (length a.out.now) c.loop-i.invariant.0 c.loop-i-test.false c.loop-i.invariant.1 c.loop-i.invariant.4;
      result_after = c.loop-i.invariant.3 ∙ ap (λ (k : ℕ). after_bytes (last_rounds a.rounds) a.rate k (first)) n;
    }
