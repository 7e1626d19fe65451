-- `abreast::clear` meets its contract.
-- Assumes nothing.
use mathlib.Core.Path.{◌≡◌, sym, ap, ◌∙◌}
use mathlib.Core.List.{List, [], ◌∷◌, ◌++◌}
use Prim.Native.Nat.{ℕ, ◌<◌, ◌≤◌}
use native.Mathlib.Omega.{arith}
use native.Mathlib.Numerals.{add-one}
use lib.ListN.{length, take, set, replicate, length-set, replicate-append-replicate}
use lib.Seq.{take-suc-set, take_all}
use Rattle.abreast.proofs.clear.Goals as goal

pub loop-i-preserved : goal.loop-i-preserved
loop-i-preserved c =
    let l = c.loop-i in
    let h : l.i < length l.states = omega arith in (
      simp length-set l.invariant.0,
      ap (λ (n : ℕ). take n (set l.states l.i 0)) (add-one l.i)
          ∙ take-suc-set l.states l.i 0 h
          ∙ ap (λ (u : List ℕ). u ++ (0 ∷ [])) l.invariant.1
          ∙ replicate-append-replicate l.i 1 0,
    )

pub returns : goal.returns
returns c =
    let l = c.loop-i in
    let all : length l.states ≤ l.i = omega arith in
    let e : l.i ≡ length c.args.states.now = omega arith in
    sym (take_all l.i l.states all) ∙ l.invariant.1 ∙ ap (λ (n : ℕ). replicate n 0) e
