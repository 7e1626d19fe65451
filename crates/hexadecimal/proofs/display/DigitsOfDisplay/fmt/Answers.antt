use Rattle.std.proofs.Common.{◌/◌, ◌%◌, get_or, arith, rules}
use Rattle.std.proofs.Output.{has_written_append, has_written_of_eq}
use Rattle.std.specs.Char.{encode_utf8}
use Rattle.hexadecimal.specs.Hex.{digit}
use Rattle.hexadecimal.proofs.Shown.{turn}
use Rattle.hexadecimal.proofs.display.DigitsOfDisplay.fmt.Goals as goal

pub loop-byte-preserved : goal.loop-byte-preserved
loop-byte-preserved g c = λ plain.
    let bytes = c.args.self.now.0.now in
    let i = c.loop-byte.byte-index in
    let byte = get_or bytes i 0 in
    let high = has_written_append _ _ _ _ (encode_utf8 (digit (byte / 16))) c.write_char.new.self (c.loop-byte.invariant plain) (search rules) in
    let both = has_written_append _ _ _ _ (encode_utf8 (digit (byte % 16))) c.write_char-in-loop-byte.new.self high (search rules) in
    has_written_of_eq _ _ _ _ _ (turn bytes i (omega arith) (search rules)) both
