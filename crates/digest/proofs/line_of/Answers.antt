-- `digest::line_of` meets its contract: what is squeezed, put as digits.
-- Assumes nothing.
use borrow.Author.Rules.{rules}
use Rattle.digest.proofs.Line.{digits_written}
use Rattle.digest.proofs.line_of.Goals as goal

pub returns : goal.returns
returns c =
    let f = c.finish-status in
    let p = c.put-fits in
    digits_written c.args.hasher.run f.result f.new.out _ p.new.text f.ensures (search rules) (search rules) p.ensures.text_after
