use mathlib.Core.Path.{ap, ◌∙◌}
use lib.ListN.{length}
use native.Mathlib.Omega.{arith}
use Rattle.keccak.specs.Permutation.{permuted}
use Rattle.sponge.specs.Model.{absorb_bytes}
use Rattle.kangarootwelve.proofs.Values.{cleared-length, first_values}
use Rattle.kangarootwelve.proofs.leaves.absorb_four.Goals as goal

pub absorb_chunks-at-requires : goal.absorb_chunks-at-requires
absorb_chunks-at-requires c =
    (ap length c.requires.chunks_len.1 ∙ cleared-length, c.requires.chunks_len.0)

pub returns : goal.returns
returns c =
    let a = c.args in record {
      upper_bound = (c.close.ensures.states_after.1, c.close.ensures.states_after.0);
      result_after = c.close.ensures.result_after
          ∙ ap (absorb_bytes permuted a.strength.rate (record { value = a.node.now; position = a.position }))
          (first_values a.strength.rate a.chunks.now a.states.now _ c.absorb_chunks-at.result c.requires.chunks_len.1 c.absorb_chunks-at.ensures.sponges (length a.value.now) c.args.strength.bounds.0 4 (omega arith));
    }
