use mathlib.Core.Path.{sym, ◌∙◌}
use native.Mathlib.Omega.{arith}
use Rattle.sponge.proofs.Abreast.{xor_12, xor_5_words, xor_5_end, xor_0}
use Rattle.sponge.proofs.four.xor_status.Goals as goal

pub returns-then-words-ne100 : goal.returns-then-words-ne100
returns-then-words-ne100 c = xor_12 _ _ _ _ _ (omega arith) c.if-words-ne100.true

pub returns-then-not-are_words : goal.returns-then-not-are_words
returns-then-not-are_words c = xor_5_words _ _ _ _ _ (omega arith) (omega arith) (sym c.are_words.ensures ∙ c.if-not-are_words.true)

pub returns-then-each-count : goal.returns-then-each-count
returns-then-each-count c =
    xor_5_end _ _ _ _ _ (omega arith) (omega arith) (sym c.are_words.ensures ∙ c.if-not-are_words.false) (omega arith)

pub returns-then-each-count-2 : goal.returns-then-each-count-2
returns-then-each-count-2 c =
    xor_5_end _ _ _ _ _ (omega arith) (omega arith) (sym c.are_words.ensures ∙ c.if-not-are_words.false) (omega arith)

pub returns : goal.returns
returns c =
    xor_0 _ _ _ _ _ (omega arith) (omega arith) (sym c.are_words.ensures ∙ c.if-not-are_words.false) (omega arith)
