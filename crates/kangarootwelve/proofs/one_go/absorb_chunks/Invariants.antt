use mathlib.Core.Path.{◌≡◌}
use Prim.Native.Nat.{◌-◌, ◌*◌, ◌≤◌}
use lib.ListN.{drop}
use Rattle.sponge.specs.Model.{fresh}
use Rattle.kangarootwelve.specs.Published.{chunk}
use Rattle.kangarootwelve.specs.Inside.{ended_chunks}
use Rattle.kangarootwelve.proofs.one_go.absorb_chunks.Given as goal

abbrev pub invariant-loop-i : goal.invariant-loop-i
invariant-loop-i l =
    (l.p ≤ l.strength.rate)
    × (ended_chunks l.strength.rate l.strength.chaining (l.count - l.i) (record { final = record { value = l.node; position = l.p }; leaf = fresh; index = l.i }) (drop (l.i * chunk) l.message)
    ≡ ended_chunks l.strength.rate l.strength.chaining l.count (record { final = record { value = l.initial.node; position = 0 }; leaf = fresh; index = 0 }) l.message)
