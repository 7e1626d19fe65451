use mathlib.Core.Path.{◌≡◌}
use Prim.Native.Nat.{◌+◌, ◌≤◌}
use lib.ListN.{length}
use Rattle.kangarootwelve.specs.Tree.{absorb_tree}
use Rattle.kangarootwelve.specs.Inside.{tree_of, Fits}
use Rattle.kangarootwelve.proofs.tree.absorb.Given as goal

abbrev pub invariant-loop-rest : goal.invariant-loop-rest
invariant-loop-rest l =
    (l.place.index + length l.rest ≤ l.initial.place.index + length l.piece) × Fits l.strength.rate (tree_of l.node l.leaf l.place)
    × (absorb_tree l.strength.rate l.strength.chaining (tree_of l.node l.leaf l.place) l.rest ≡ absorb_tree l.strength.rate l.strength.chaining (tree_of l.initial.node l.initial.leaf l.initial.place) l.piece)

abbrev pub decreases-loop-rest : goal.decreases-loop-rest
decreases-loop-rest l = length l.rest
