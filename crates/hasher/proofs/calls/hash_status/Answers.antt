use Rattle.hasher.proofs.OneGo.{hash_1, hash_2, hash_7, hash_6, hash_0}
use Rattle.hasher.proofs.calls.hash_status.Goals as goal

pub returns-then-refusal-ne-DONE : goal.returns-then-refusal-ne-DONE
returns-then-refusal-ne-DONE c = let a = c.args in hash_1 a.limit a.message a.refusal a.asked c.if-refusal-ne-DONE.true

pub returns-then-message-gt-MESSAGE_LIMIT : goal.returns-then-message-gt-MESSAGE_LIMIT
returns-then-message-gt-MESSAGE_LIMIT c = let a = c.args in hash_2 a.limit a.message a.refusal a.asked c.if-refusal-ne-DONE.false c.if-message-gt-MESSAGE_LIMIT.true

pub returns-then-asked-eq0 : goal.returns-then-asked-eq0
returns-then-asked-eq0 c = let a = c.args in hash_7 a.limit a.message a.refusal a.asked c.if-refusal-ne-DONE.false c.if-message-gt-MESSAGE_LIMIT.false c.if-asked-eq0.true

pub returns-then-limit-asked : goal.returns-then-limit-asked
returns-then-limit-asked c = let a = c.args in hash_6 a.limit a.message a.refusal a.asked c.if-refusal-ne-DONE.false c.if-message-gt-MESSAGE_LIMIT.false c.if-asked-eq0.false c.if-limit-asked.true

pub returns : goal.returns
returns c = let a = c.args in hash_0 a.limit a.message a.refusal a.asked c.if-refusal-ne-DONE.false c.if-message-gt-MESSAGE_LIMIT.false c.if-asked-eq0.false c.if-limit-asked.false
