use mathlib.Core.Path.{◌≡◌, sym, ap, ◌∙◌, subst}
use Prim.Native.Nat.{ℕ, ◌+◌, ◌-◌, ◌/◌, ◌≤◌, ◌<◌}
use native.Mathlib.Omega.{arith}
use lib.ListN.{length}
use Rattle.sp800_185.specs.Published.{left_encode}
use Rattle.sp800_185.proofs.Blocks.{right_is, padded-least}
use Rattle.sp800_185.proofs.Encoding.{left_short}
use Rattle.sp800_185.proofs.Prefixes.{padded_few}
use Rattle.sp800_185.proofs.prefix.padded_blocks.Goals as goal

pub overflow_add-total : goal.overflow_add-total
overflow_add-total c =
    let r = c.args.rate in
    let e : c.right_length.result ≡ length (left_encode r) = c.right_length.ensures ∙ right_is r in
    omega (arith, e, left_short r (omega arith))

pub overflow_add-result : goal.overflow_add-result
overflow_add-result c =
    let r = c.args.rate in
    let e : c.right_length.result ≡ length (left_encode r) = c.right_length.ensures ∙ right_is r in
    omega (arith, e, left_short r (omega arith))

pub returns : goal.returns
returns c =
    let a = c.args in
    let e : c.right_length.result ≡ length (left_encode a.rate) = c.right_length.ensures ∙ right_is a.rate in
    let is = ap (λ (k : ℕ). (k + a.n + (a.rate - 1)) / a.rate) e in
    (is, subst (λ (k : ℕ). 0 < k) (sym is) (padded-least a.rate c.requires.0 a.n), subst (λ (k : ℕ). k ≤ a.n + 9) (sym is) (padded_few a.rate c.requires.0 c.requires.1 a.n))
