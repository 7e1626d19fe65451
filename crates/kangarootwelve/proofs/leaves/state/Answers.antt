use mathlib.Core.Path.{◌≡◌, refl, sym, ap, ◌∙◌, subst}
use mathlib.Core.List.{List, [], ◌∷◌, ◌++◌}
use Prim.Native.Nat.{ℕ, ◌+◌, ◌*◌, ◌<◌}
use native.Mathlib.Numerals.{add-one}
use native.Mathlib.Omega.{arith}
use lib.ListN.{length, take, set, get_or, length-set}
use lib.Seq.{take-suc-set, take-suc, take_all}
use Rattle.abreast.specs.Four.{state_at}
use Rattle.abreast.proofs.Four.{state-length, state_at_lem}
use Rattle.kangarootwelve.proofs.leaves.state.Goals as goal

pub loop-i-init : goal.loop-i-init
loop-i-init c = (refl, refl)

pub loop-i-preserved : goal.loop-i-preserved
loop-i-preserved c =
    let l = c.loop-i in
    let a = c.args in
    let s : List ℕ = a.states.now in
    let st : List ℕ = state_at a.j s in
    let w : ℕ = get_or s (4 * l.i + a.j) 0 in
    let hi : l.i < 25 = omega arith in
    let hl : l.i < length l.lanes = omega arith in
    let hs : l.i < length st = subst (λ (n : ℕ). l.i < n) (sym (state-length a.j s)) hi in (
      length-set l.lanes l.i w ∙ l.invariant.0,
      ap (λ (n : ℕ). take n (set l.lanes l.i w)) (add-one l.i)
          ∙ take-suc-set l.lanes l.i w hl
          ∙ ap (λ (u : List ℕ). u ++ (w ∷ [])) l.invariant.1
          ∙ ap (λ (x : ℕ). take l.i st ++ (x ∷ [])) (sym (state_at_lem a.j s l.i hi))
          ∙ sym (take-suc st l.i 0 hs)
          ∙ ap (λ (n : ℕ). take n st) (sym (add-one l.i)),
    )

pub returns : goal.returns
returns c =
    let l = c.loop-i in
    let a = c.args in
    let st : List ℕ = state_at a.j a.states.now in
    let n : length st ≡ 25 = state-length a.j a.states.now in
    sym (take_all l.i l.lanes (omega arith)) ∙ l.invariant.1 ∙ take_all l.i st (omega (arith, n))
