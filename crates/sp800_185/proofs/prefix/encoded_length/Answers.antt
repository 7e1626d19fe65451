use mathlib.Core.Path.{◌≡◌, ap, ◌∙◌}
use Prim.Native.Nat.{ℕ, ◌+◌, ◌*◌}
use native.Mathlib.Omega.{arith}
use lib.ListN.{length}
use Rattle.sp800_185.specs.Published.{left_encode}
use Rattle.sp800_185.proofs.Blocks.{right_is}
use Rattle.sp800_185.proofs.Encoding.{left_short}
use Rattle.sp800_185.proofs.prefix.encoded_length.Goals as goal

pub overflow_add-result : goal.overflow_add-result
overflow_add-result c =
    let n = c.args.n in
    let e : c.right_length.result ≡ length (left_encode (8 * n)) = c.right_length.ensures ∙ right_is (8 * n) in
    omega (arith, e, left_short (8 * n) (omega arith))

pub returns : goal.returns
returns c =
    let n = c.args.n in
    let e : c.right_length.result ≡ length (left_encode (8 * n)) = c.right_length.ensures ∙ right_is (8 * n) in
    (ap (λ (k : ℕ). k + n) e, omega (arith, e, left_short (8 * n) (omega arith)))
