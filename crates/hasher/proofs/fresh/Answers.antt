use mathlib.Core.Path.{ap, sym}
use mathlib.Core.List.{List}
use Prim.Native.Nat.{ℕ}
use Rattle.sponge.proofs.Valid.{zero_lanes_lem}
use Rattle.hasher.specs.Model.{fresh_of, progress_of, run_with}
use Rattle.hasher.proofs.fresh.Goals as goal

pub returns : goal.returns
unfolding fresh_of
returns c = ap (λ (l : List ℕ). run_with l (progress_of fresh_of)) (sym zero_lanes_lem)
