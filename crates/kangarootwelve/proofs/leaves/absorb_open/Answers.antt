use mathlib.Core.Path.{ap, ◌∙◌}
use lib.ListN.{length}
use native.Mathlib.Omega.{arith}
use Rattle.keccak.specs.Permutation.{permuted}
use Rattle.sponge.specs.Model.{absorb_bytes}
use Rattle.kangarootwelve.proofs.Values.{cleared-length, first_values, open_leaf}
use borrow.Author.Rules.{rules}
use Rattle.kangarootwelve.proofs.leaves.absorb_open.Goals as goal

pub absorb_chunks-at-requires : goal.absorb_chunks-at-requires
absorb_chunks-at-requires c =
    (ap length c.requires.chunks_len.1 ∙ cleared-length, c.requires.chunks_len.0)

-- the open leaf is sought first: a version that takes another state out is refused for it
pub returns : goal.returns
returns c =
    let a = c.args in
    record {
      leaf_after = search (rules, open_leaf);
      node_le_rate = (c.close-valued.ensures.states_after.1, c.absorb_chunks-at.ensures.upper_bound, c.close-valued.ensures.states_after.0);
      node_after = c.close-valued.ensures.result_after
          ∙ ap (absorb_bytes permuted a.strength.rate (record { value = a.node.now; position = a.position }))
          (first_values a.strength.rate a.chunks.now a.states.now _ c.absorb_chunks-at.result c.requires.chunks_len.1 c.absorb_chunks-at.ensures.sponges (length a.value.now) c.args.strength.bounds.0 3 (omega arith));
    }
