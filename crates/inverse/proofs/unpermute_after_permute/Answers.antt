-- `inverse::unpermute_after_permute` hands back the lanes given.
-- Assumes nothing.
use mathlib.Core.Path.{◌≡◌, ap, ◌∙◌}
use mathlib.Core.List.{List}
use Prim.Native.Nat.{ℕ}
use Rattle.keccak.proofs.States.{array_state}
use Rattle.inverse.specs.Inverse.{last_unrounds}
use Rattle.inverse.proofs.Claims.{claims}
use Rattle.inverse.proofs.unpermute_after_permute.Goals as goal

pub returns : goal.returns
returns c =
    let a : List ℕ = c.args.lanes in
    let n : ℕ = c.args.rounds in
    let lanes : c.unpermute.result.lanes ≡ a = c.unpermute.ensures.lanes_value ∙ ap (last_unrounds n) c.permute-permuted.ensures.lanes_value ∙ (claims.rounds-undone n).undone a (array_state a c.well_formed.0) in
    λ i. record { lanes = lanes i; status = c.unpermute.ensures.status_value i }
