use native.Mathlib.Omega.{arith}
use Rattle.kangarootwelve.proofs.Encoding.{encode_1, encode_2, encode_3, encode_4}
use Rattle.kangarootwelve.proofs.totals.encoded_bytes.Goals as goal

pub returns-then-x-eq0 : goal.returns-then-x-eq0
returns-then-x-eq0 c = (encode_1 c.args.x c.if-x-eq0.true, omega arith)

pub returns-then-x-lt256 : goal.returns-then-x-lt256
returns-then-x-lt256 c = (encode_2 c.args.x c.if-x-eq0.false c.if-x-lt256.true, omega arith)

pub returns-then-x-lt65536 : goal.returns-then-x-lt65536
returns-then-x-lt65536 c = (encode_3 c.args.x c.if-x-lt256.false c.if-x-lt65536.true, omega arith)

pub returns : goal.returns
returns c = (encode_4 c.args.x c.if-x-lt65536.false (omega arith), omega arith)
