use Rattle.kangarootwelve.proofs.Mac.{mac_2, mac_rest}
use Rattle.kangarootwelve.proofs.hopmac.mac_status.Goals as goal

pub returns-then-key-gt-MESSAGE_LIMIT : goal.returns-then-key-gt-MESSAGE_LIMIT
returns-then-key-gt-MESSAGE_LIMIT c = let a = c.args in mac_2 a.key a.message a.customization a.asked c.if-key-gt-MESSAGE_LIMIT.true

pub returns : goal.returns
returns c = let a = c.args in mac_rest a.key a.message a.customization a.asked c.hash_status.result c.if-key-gt-MESSAGE_LIMIT.false c.hash_status.ensures
