-- `kangarootwelve::fours::absorb_leaves` meets its contract. The loop's invariant: what is left takes the tree to where all of it takes it.
-- Assumes nothing.
use mathlib.Core.Path.{◌≡◌}
use Prim.Native.Nat.{◌+◌, ◌≤◌, ◌<◌}
use lib.ListN.{length}
use Rattle.kangarootwelve.specs.Tree.{absorb_tree}
use Rattle.kangarootwelve.specs.Inside.{tree_of}
use Rattle.kangarootwelve.specs.Leaves.{cleared}
use Rattle.kangarootwelve.proofs.fours.absorb_leaves.Given as goal

abbrev pub invariant-loop-rest : goal.invariant-loop-rest
invariant-loop-rest l =
    (0 < length l.rest) × (l.place.index + length l.rest ≤ l.initial.place.index + length l.chunks) × (0 < l.place.index) × (l.place.node ≤ l.strength.rate) × (l.place.leaf ≡ 0) × (l.place.position ≡ 0) × (l.states ≡ cleared)
    × (length l.value ≡ length l.initial.value) × (absorb_tree l.strength.rate l.strength.chaining (tree_of l.node l.leaf l.place) l.rest ≡ absorb_tree l.strength.rate l.strength.chaining (tree_of l.initial.node l.leaf l.initial.place) l.chunks)

abbrev pub decreases-loop-rest : goal.decreases-loop-rest
decreases-loop-rest l = length l.rest
