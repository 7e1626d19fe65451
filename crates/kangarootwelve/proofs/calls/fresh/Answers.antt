use mathlib.Core.Path.{ap, sym}
use mathlib.Core.List.{List}
use Prim.Native.Nat.{ℕ}
use Rattle.sponge.proofs.Valid.{zero_lanes_lem}
use Rattle.kangarootwelve.specs.Model.{fresh_of, machine}
use Rattle.kangarootwelve.proofs.calls.fresh.Goals as goal

pub returns : goal.returns
unfolding fresh_of machine
returns c rate chaining = ap (λ (l : List ℕ). record { node = record { lanes = l; position = 0 }; leaf = record { lanes = l; position = 0 }; phase = 0; absorbed = 0; customized = 0; squeezed = 0; permutations = 0 }) (sym zero_lanes_lem)
