use mathlib.Core.Path.{◌≡◌, refl, ap, ◌∙◌}
use Prim.Native.Nat.{ℕ, ◌+◌, ◌-◌, ◌*◌, ◌/◌, ◌≤◌}
use native.Mathlib.Omega.{arith}
use lib.ListN.{length, take, drop, get_or, length-drop}
use lib.Seq.{length-take-le}
use Rattle.sponge.proofs.Output.{write_next_word, length-with_word, put_rest}
use Rattle.sponge.proofs.block.read_words.Goals as goal

pub loop-q-preserved : goal.loop-q-preserved
loop-q-preserved c =
    let a = c.args in
    let o = c.put_word in
    let q = c.loop-q.q in
    let w : ℕ = get_or a.lanes.now (a.first + q) 0 in
    let room : 8 * q + 8 ≤ length c.loop-q.out = omega arith in
    let h : length o.new.out ≡ length c.loop-q.out = ap length o.ensures ∙ length-with_word c.loop-q.out (8 * q) w in
    (h ∙ c.loop-q.invariant.0, write_next_word a.lanes.now c.loop-q.out o.new.out (8 * a.first) (a.first + q) q w room (omega arith) refl o.ensures c.loop-q.invariant.1)

pub returns : goal.returns
returns c =
    let a = c.args in
    let o = c.loop-q.out in
    let i = 8 * (length a.out.now / 8) in
    let q = c.loop-q.q in
    let e : 8 * q ≡ i = omega arith in
    let m : length (take (length o - i) (drop i o)) ≡ length o - i = length-take-le (length o - i) (drop i o) (omega (arith, length-drop i o)) in
    put_rest a.lanes.now o c.read_bytes.new.out (8 * a.first) (8 * (a.first + length a.out.now / 8)) i _ (length a.out.now) (omega arith) (rw e at c.loop-q.invariant.1) c.read_bytes.ensures (omega arith) m c.loop-q.invariant.0
