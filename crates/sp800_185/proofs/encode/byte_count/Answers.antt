use native.Mathlib.Omega.{arith}
use Rattle.sp800_185.proofs.Encoding.{counted, bytes_few}
use Rattle.sp800_185.proofs.encode.byte_count.Goals as goal

pub returns : goal.returns
returns c =
    let is = counted c.args.x c.if-x-eq0.false (omega arith) in
    let few = bytes_few c.args.x (omega arith) in
    (is, omega (arith, is, few.0), omega arith)
