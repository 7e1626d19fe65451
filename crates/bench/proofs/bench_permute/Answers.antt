use mathlib.Core.Path.{◌≡◌, refl, sym, ap, ◌∙◌}
use mathlib.Core.List.{List}
use Prim.Native.Nat.{ℕ, ◌+◌}
use native.Mathlib.Numerals.{add-one}
use native.Mathlib.Omega.{arith}
use Rattle.keccak.specs.Permutation.{permuted}
use Rattle.bench.specs.Repeat.{repeated}
use Rattle.bench.proofs.bench_permute.Goals as goal

one_more : (l a b : List ℕ) (i : ℕ) → a ≡ repeated i l → b ≡ permuted a → b ≡ repeated (i + 1) l
unfolding repeated
one_more l a b i h e = e ∙ ap permuted h ∙ ap (λ (k : ℕ). repeated k l) (sym (add-one i))

pub loop-init : goal.loop-init
unfolding repeated
loop-init c = refl

pub loop-preserved : goal.loop-preserved
loop-preserved c = let at = c.loop in one_more _ at.lanes c.permute_in_place.new.lanes at.counter at.invariant c.permute_in_place.ensures.lanes_after

pub returns : goal.returns
returns c =
    let at = c.loop in
    let e : at.counter ≡ c.args.count = omega arith in
    at.invariant ∙ ap (λ (k : ℕ). repeated k c.args.lanes.now) e
