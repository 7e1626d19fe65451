use mathlib.Core.Path.{◌≡◌, refl, ap, ◌∙◌}
use mathlib.Core.List.{List}
use Prim.Native.Nat.{ℕ, ◌+◌, ◌*◌, ◌<◌}
use native.Mathlib.Omega.{arith}
use lib.ListN.{length, take, drop, length-set}
use Rattle.keccak.specs.State.{word}
use Rattle.sponge.proofs.Words.{xor_lane}
use Rattle.sponge.proofs.Abreast.{one_word, each_four}
use Rattle.sponge.proofs.four.xor_lanes.Goals as goal

pub bounds-states-i-3 : goal.bounds-states-i-3
bounds-states-i-3 c = simp length-set (omega arith)

pub bounds-states-i-4 : goal.bounds-states-i-4
bounds-states-i-4 c = simp length-set (omega arith)

pub bounds-states-i-5 : goal.bounds-states-i-5
bounds-states-i-5 c = simp length-set (omega arith)

pub bounds-states-i-6 : goal.bounds-states-i-6
bounds-states-i-6 c = simp length-set (omega arith)

pub bounds-states-i-7 : goal.bounds-states-i-7
bounds-states-i-7 c = simp length-set (omega arith)

pub bounds-states-i-8 : goal.bounds-states-i-8
bounds-states-i-8 c = simp length-set (omega arith)

pub returns : goal.returns
returns c =
    let q = c.args.q in
    let at = c.args.at in
    let each = c.args.each in
    let s : List ℕ = c.args.strings.now in
    let h : length c.args.states.now ≡ 100 = c.requires.0 in
    let lane : q < 25 = c.requires.1 in
    let v : ℕ → ℕ = λ k. word (take 8 (drop (each * k + at) s)) in
    let from : (i j : ℕ) → i ≡ j → word (take 8 (drop i s)) ≡ word (take 8 (drop j s)) = λ i j e. ap (λ (n : ℕ). word (take 8 (drop n s))) e in
    each_four (λ k l. xor_lane l q (v k)) c.args.states.now _ _ _ _ h
    (one_word 0 q (4 * q) c.word_at.result (v 0) _ (omega arith) lane h (omega arith) (c.word_at.ensures ∙ from at (each * 0 + at) (omega arith)))
    (one_word 1 q (4 * q + 1) c.word_at-2.result (v 1) _ (omega arith) lane (simp length-set h) refl (c.word_at-2.ensures ∙ from (at + each) (each * 1 + at) (omega arith)))
    (one_word 2 q (4 * q + 2) c.word_at-3.result (v 2) _ (omega arith) lane (simp length-set h) refl (c.word_at-3.ensures ∙ from (at + 2 * each) (each * 2 + at) (omega arith)))
    (one_word 3 q (4 * q + 3) c.word_at-4.result (v 3) _ (omega arith) lane (simp length-set h) refl (c.word_at-4.ensures ∙ from (at + 3 * each) (each * 3 + at) (omega arith)))
