use Rattle.sponge.proofs.Words.{byte-shifted}
use Rattle.sponge.proofs.block.xor_byte.Goals as goal

pub returns : goal.returns
returns c = let a = c.args in byte-shifted a.lanes.now a.at a.b c.wide.result c.wide.ensures.0 c.wide.ensures.1
