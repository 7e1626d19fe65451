-- `inverse::permute_after_unpermute` hands back the lanes given.
-- Assumes nothing.
use mathlib.Core.Path.{◌≡◌, ap, ◌∙◌}
use mathlib.Core.List.{List}
use Prim.Native.Nat.{ℕ}
use Rattle.keccak.specs.Permutation.{last_rounds}
use Rattle.keccak.proofs.States.{array_state}
use Rattle.inverse.proofs.Claims.{claims}
use Rattle.inverse.proofs.permute_after_unpermute.Goals as goal

pub returns : goal.returns
returns c =
    let a : List ℕ = c.args.lanes in
    let n : ℕ = c.args.rounds in
    let lanes : c.permute.result.lanes ≡ a = c.permute.ensures.lanes_value ∙ ap (last_rounds n) c.unpermute-unpermuted.ensures.lanes_value ∙ (claims.rounds-undone n).done a (array_state a c.well_formed.0) in
    λ i. record { lanes = lanes i; status = c.permute.ensures.status_value i }
