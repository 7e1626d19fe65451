use mathlib.Core.Path.{ap, ◌∙◌}
use lib.ListN.{length}
use native.Mathlib.Omega.{arith}
use Rattle.keccak.specs.Permutation.{permuted}
use Rattle.sponge.specs.Model.{absorb_bytes}
use Rattle.kangarootwelve.proofs.Values.{cleared_is, open_values_lem}
use borrow.Author.Rules.{rules}
use Rattle.kangarootwelve.proofs.leaves.close.Goals as goal

-- the slice's zeros are sought first: a version that does not clear it is refused for them
pub returns : goal.returns
returns c = record {
  states_after = (
    search (rules, cleared_is),
    c.absorb_values-valued.ensures.upper_bound,
  );
  result_after = let a = c.args in
      c.absorb_values-valued.ensures.result_after
      ∙ ap (absorb_bytes permuted a.strength.rate (record { value = a.node.now; position = a.position }))
      (open_values_lem a.strength.rate (length a.value.now) c.args.strength.bounds.0 c.requires.value_len_bound.0 a.states.now _ a.at c.pad.ensures a.count 0 (omega arith));
}
