use Rattle.kangarootwelve.proofs.OneGo.{hash_2, hash_4, hash_7, hash_6, hash_0}
use Rattle.kangarootwelve.proofs.one_go.hash_status.Goals as goal

pub returns-then-message-gt-MESSAGE_LIMIT : goal.returns-then-message-gt-MESSAGE_LIMIT
returns-then-message-gt-MESSAGE_LIMIT c = let a = c.args in hash_2 a.message a.customization a.asked c.if-message-gt-MESSAGE_LIMIT.true

pub returns-then-customization-gt-CUSTOMIZATION_LIMIT : goal.returns-then-customization-gt-CUSTOMIZATION_LIMIT
returns-then-customization-gt-CUSTOMIZATION_LIMIT c = let a = c.args in hash_4 a.message a.customization a.asked c.if-message-gt-MESSAGE_LIMIT.false c.if-customization-gt-CUSTOMIZATION_LIMIT.true

pub returns-then-asked-eq0 : goal.returns-then-asked-eq0
returns-then-asked-eq0 c = let a = c.args in hash_7 a.message a.customization a.asked c.if-message-gt-MESSAGE_LIMIT.false c.if-customization-gt-CUSTOMIZATION_LIMIT.false c.if-asked-eq0.true

pub returns-then-asked-gt-OUTPUT_LIMIT : goal.returns-then-asked-gt-OUTPUT_LIMIT
returns-then-asked-gt-OUTPUT_LIMIT c = let a = c.args in hash_6 a.message a.customization a.asked c.if-message-gt-MESSAGE_LIMIT.false c.if-customization-gt-CUSTOMIZATION_LIMIT.false c.if-asked-eq0.false c.if-asked-gt-OUTPUT_LIMIT.true

pub returns : goal.returns
returns c = let a = c.args in hash_0 a.message a.customization a.asked c.if-message-gt-MESSAGE_LIMIT.false c.if-customization-gt-CUSTOMIZATION_LIMIT.false c.if-asked-eq0.false c.if-asked-gt-OUTPUT_LIMIT.false
