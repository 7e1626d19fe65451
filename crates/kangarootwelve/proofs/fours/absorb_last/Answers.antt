-- `kangarootwelve::fours::absorb_last` meets its contract.
-- Assumes nothing.
use native.Mathlib.Omega.{arith}
use Rattle.kangarootwelve.proofs.Published.{chunk_is}
use Rattle.kangarootwelve.proofs.FourLeaves.{open_row}
use Rattle.kangarootwelve.proofs.fours.absorb_last.Goals as goal

pub absorb_open-open-requires : goal.absorb_open-open-requires
absorb_open-open-requires c =
    record {
      position_bound = c.requires.leaf_begins.0;
      chunks_len = (omega arith, c.requires.leaf_begins.6, rw c.requires.value_len c.args.strength.bounds.6, rw c.requires.value_len c.args.strength.bounds.5);
    }

pub returns-then-chunks-eq-FOUR_CHUNKS : goal.returns-then-chunks-eq-FOUR_CHUNKS
returns-then-chunks-eq-FOUR_CHUNKS c =
    let o = c.absorb_open-open in
    let a = c.args in record {
      fits = (record { final-fits = o.ensures.node_le_rate.0; leaf-fits = o.ensures.node_le_rate.1; position-fits = omega (arith, chunk_is) }, o.ensures.node_le_rate.2);
      index_bound = omega (arith, c.if-chunks-eq-FOUR_CHUNKS.true);
      result_after = open_row a.strength.rate a.strength.chaining c.args.strength.bounds.0 c.args.strength.bounds.1 (record { value = a.node.now; position = a.at.node }) (record { value = o.new.node; position = o.result.node })
          (record { value = o.new.leaf; position = o.result.leaf }) a.leaf.now a.at.leaf a.at.index a.at.position a.value.now a.chunks.now c.requires.leaf_begins.5 c.requires.leaf_begins.1
          c.requires.leaf_begins.2 c.requires.leaf_begins.3 c.requires.value_len c.if-chunks-eq-FOUR_CHUNKS.true o.ensures.node_after o.ensures.leaf_after;
    }
