use mathlib.Core.Path.{ap}
use Prim.Native.Nat.{◌-◌}
use lib.ListN.{take, replicate}
use Rattle.sponge.specs.Model.{fresh}
use Rattle.kangarootwelve.specs.Published.{marker}
use Rattle.kangarootwelve.specs.Tree.{Tree}
use Rattle.kangarootwelve.proofs.Nodes.{value-length}
use Rattle.kangarootwelve.proofs.OneGo.{first_chunk, later_chunk, ended_in}
use Rattle.kangarootwelve.proofs.one_go.absorb_chunk.Goals as goal

pub returns-then-index-eq0 : goal.returns-then-index-eq0
unfolding marker
returns-then-index-eq0 c =
    let o = c.absorb-first in
    let q = c.absorb-marked in
    let row = first_chunk c.args.strength.rate c.args.strength.bounds.0 c.args.strength.bounds.1 c.args.strength.chaining (record { value = c.args.node.now; position = c.args.position }) c.args.index c.args.part.now (record { status = o.result.status; state = record { value = o.new.lanes; position = o.result.position } }) (record { status = q.result.status; state = record { value = q.new.lanes; position = q.result.position } })
    c.if-index-eq0.true c.requires.0 o.ensures q.ensures in record {
      upper_bound = rw (ap (λ (t : Tree). t.final.position) row) (ended_in c.args.strength.rate c.args.strength.bounds.0 c.args.strength.bounds.1 c.args.strength.chaining (record { final = record { value = c.args.node.now; position = c.args.position }; leaf = fresh; index = c.args.index }) c.args.part.now c.requires.0);
      index_after = row;
    }

pub absorb_leaf-requires : goal.absorb_leaf-requires
absorb_leaf-requires c =
    let n = value-length c.args.strength.chaining c.args.strength.bounds.4 in
    (c.requires.0, c.requires.1, rw n c.args.strength.bounds.3, rw n c.args.strength.bounds.4)

pub returns : goal.returns
returns c =
    let o = c.absorb_leaf in
    let row = later_chunk c.args.strength.rate c.args.strength.bounds.0 c.args.strength.bounds.1 c.args.strength.chaining (record { value = c.args.node.now; position = c.args.position }) (record { value = o.new.node; position = o.result }) c.args.index c.args.part.now
    (take (c.args.strength.chaining - 0) (replicate 64 0)) c.if-index-eq0.false (value-length c.args.strength.chaining c.args.strength.bounds.4) o.ensures in record {
      upper_bound = rw (ap (λ (t : Tree). t.final.position) row) (ended_in c.args.strength.rate c.args.strength.bounds.0 c.args.strength.bounds.1 c.args.strength.chaining (record { final = record { value = c.args.node.now; position = c.args.position }; leaf = fresh; index = c.args.index }) c.args.part.now c.requires.0);
      index_after = row;
    }
