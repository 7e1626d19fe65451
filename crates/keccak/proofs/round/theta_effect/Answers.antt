-- `keccak::round::theta_effect` meets its contract: what the code computes and what it ensures are one term.
-- Assumes nothing.
use mathlib.Core.Path.{ap}
use lib.Bits.{bit_xor}
use Rattle.keccak.specs.Round.{parity, rotl, complement}
use Rattle.keccak.proofs.round.theta_effect.Goals as goal

pub returns : goal.returns
unfolding parity rotl complement
returns c = record {
  result_value = ap (bit_xor _) c.rotate_left.ensures;
  result_value_2 = ap (bit_xor _) c.rotate_left-2.ensures;
  result_value_3 = ap (bit_xor _) c.rotate_left-3.ensures;
  result_value_4 = ap (bit_xor _) c.rotate_left-4.ensures;
  result_value_5 = ap (bit_xor _) c.rotate_left-5.ensures;
}
