use mathlib.Core.Path.{sym, ◌∙◌}
use native.Mathlib.Omega.{arith}
use Rattle.sponge.proofs.Abreast.{read_12, read_5_state, read_5_words, read_0}
use Rattle.sponge.proofs.four.read_status.Goals as goal

pub returns-then-words-ne100 : goal.returns-then-words-ne100
returns-then-words-ne100 c = read_12 _ _ _ _ (omega arith) c.if-words-ne100.true

pub returns-then-j-ge4 : goal.returns-then-j-ge4
returns-then-j-ge4 c = read_5_state _ _ _ _ (omega arith) (omega arith) (omega arith)

pub returns-then-not-are_words : goal.returns-then-not-are_words
returns-then-not-are_words c = read_5_words _ _ _ _ (omega arith) (omega arith) (omega arith) (sym c.are_words.ensures ∙ c.if-not-are_words.true)

pub returns : goal.returns
returns c = read_0 _ _ _ _ (omega arith) (omega arith) (omega arith) (sym c.are_words.ensures ∙ c.if-not-are_words.false)
