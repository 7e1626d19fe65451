-- `injective::absorb_both` meets its contract: each answer is `hasher::absorb`'s, and so the theorem speaks of both.
-- Assumes nothing.
use Rattle.keccak.proofs.States.{field_state}
use Rattle.sponge.proofs.Typed.{slice_bytes}
use Rattle.hasher.specs.Model.{function_of}
use Rattle.injective.proofs.Runs.{same_answered}
use Rattle.injective.proofs.absorb_both.Goals as goal

pub returns : goal.returns
returns c =
    let a = c.args in
    let good = c.well_formed.1 in
    let f = c.absorb-one.ensures in
    let g = c.absorb-other.ensures in
    let first = field_state a.first.lanes _ good.0.1.1.0 in
    let second = field_state a.second.lanes _ good.1.0.1.1.0 in
    let bytes = slice_bytes a.piece.now (λ i. c.shared_slice_known-1.given i) in record {
      first_value = f;
      second_value = g;
      first_value_2 = same_answered (function_of a.numbers) a.first a.second a.piece.now f g first second bytes;
    }
