use Rattle.kangarootwelve.proofs.Mac.{check-key, check-message, check_4, check_empty, check_long, check_0}
use Rattle.kangarootwelve.proofs.hopmac.check_status.Goals as goal

pub returns-then-key-gt-MESSAGE_LIMIT : goal.returns-then-key-gt-MESSAGE_LIMIT
returns-then-key-gt-MESSAGE_LIMIT c = let a = c.args in check-key a.key a.message a.customization a.presented c.if-key-gt-MESSAGE_LIMIT.true

pub returns-then-message-gt-MESSAGE_LIMIT : goal.returns-then-message-gt-MESSAGE_LIMIT
returns-then-message-gt-MESSAGE_LIMIT c = let a = c.args in check-message a.key a.message a.customization a.presented c.if-key-gt-MESSAGE_LIMIT.false c.if-message-gt-MESSAGE_LIMIT.true

pub returns-then-customization-gt-CUSTOMIZATION_LIMIT : goal.returns-then-customization-gt-CUSTOMIZATION_LIMIT
returns-then-customization-gt-CUSTOMIZATION_LIMIT c = let a = c.args in check_4 a.key a.message a.customization a.presented c.if-key-gt-MESSAGE_LIMIT.false c.if-message-gt-MESSAGE_LIMIT.false c.if-customization-gt-CUSTOMIZATION_LIMIT.true

pub returns-then-presented-eq0 : goal.returns-then-presented-eq0
returns-then-presented-eq0 c = let a = c.args in check_empty a.key a.message a.customization a.presented c.if-key-gt-MESSAGE_LIMIT.false c.if-message-gt-MESSAGE_LIMIT.false c.if-customization-gt-CUSTOMIZATION_LIMIT.false c.if-presented-eq0.true

pub returns-then-presented-le-TAG_LIMIT : goal.returns-then-presented-le-TAG_LIMIT
returns-then-presented-le-TAG_LIMIT c = let a = c.args in check_0 a.key a.message a.customization a.presented c.if-key-gt-MESSAGE_LIMIT.false c.if-message-gt-MESSAGE_LIMIT.false c.if-customization-gt-CUSTOMIZATION_LIMIT.false c.if-presented-eq0.false c.if-presented-le-TAG_LIMIT.true

pub returns : goal.returns
returns c = let a = c.args in check_long a.key a.message a.customization a.presented c.if-key-gt-MESSAGE_LIMIT.false c.if-message-gt-MESSAGE_LIMIT.false c.if-customization-gt-CUSTOMIZATION_LIMIT.false c.if-presented-eq0.false c.if-presented-le-TAG_LIMIT.false
