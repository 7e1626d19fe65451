use mathlib.Core.Path.{sym}
use Rattle.keccak.proofs.Bytes.{byte_is}
use Rattle.sponge.proofs.block.byte_of.Goals as goal

pub returns : goal.returns
returns c = sym (byte_is _ _)
