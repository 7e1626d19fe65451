use mathlib.Core.Path.{◌≡◌, sym, ap, ◌∙◌}
use mathlib.Core.List.{List}
use Prim.Native.Nat.{ℕ, ◌+◌, ◌*◌, ◌<◌, ◌≤◌}
use native.Mathlib.Omega.{arith}
use lib.ListN.{length, get_or}
use Rattle.abreast.specs.Four.{state_at}
use Rattle.abreast.proofs.Four.{state_at_lem}
use Rattle.sponge.specs.Published.{bytes_from}
use Rattle.sponge.proofs.Output.{write_next_word, length-with_word, write_all}
use Rattle.sponge.proofs.four.read_words.Goals as goal

pub loop-q-preserved : goal.loop-q-preserved
loop-q-preserved c =
    let a = c.args in
    let o = c.put_word in
    let q = c.loop-q.q in
    let s : List ℕ = a.states.now in
    let w : ℕ = get_or s (4 * q + a.j) 0 in
    let lane : q < 25 = omega arith in
    let room : 8 * q + 8 ≤ length c.loop-q.out = omega arith in
    let h : length o.new.out ≡ length c.loop-q.out = ap length o.ensures ∙ length-with_word c.loop-q.out (8 * q) w in
    (h ∙ c.loop-q.invariant.0, write_next_word (state_at a.j s) c.loop-q.out o.new.out 0 q q w room (omega arith) (sym (state_at_lem a.j s q lane)) o.ensures c.loop-q.invariant.1)

pub shape_of-out : goal.shape_of-out
shape_of-out c = c.loop-q.invariant.0

pub returns : goal.returns
returns c =
    let a = c.args in
    let q = c.loop-q.q in
    write_all (λ n. bytes_from (state_at a.j a.states.now) 0 n) c.loop-q.out (8 * q) _ (omega arith) (omega arith) c.loop-q.invariant.0 c.loop-q.invariant.1
