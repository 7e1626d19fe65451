-- The call in one go at any rate: what a caller with a rate, a D and lengths within the limits knows.
-- Assumes nothing.
use mathlib.Core.Path.{◌≡◌, refl}
use mathlib.Core.List.{List}
use Prim.Native.Nat.{ℕ, ◌≤◌, ◌<◌, zero-le}
use lib.ListN.{length}
use Rattle.sponge.proofs.Valid.{fits-valid}
use Rattle.hasher.proofs.OneGo as one_go
use Rattle.hasher.specs.Model.{one_go_output}
use Rattle.turboshake.specs.Published.{turboshake_rounds, turboshake}
use Rattle.turboshake.specs.Transcript.{message_limit, output_limit, domain_status, function}
use Rattle.turboshake.proofs.Claims.{domain_taken}

module _ (rate : ℕ) (pos : 0 < rate) (most : rate ≤ 200) where
  -- within the limits: the published output
  pub at_written : (m : List ℕ) (d : ℕ) (out : List ℕ) → 0 < d → d ≤ 0x7F → length m ≤ message_limit → 0 < length out → length out ≤ output_limit
      → one_go_output (function rate) m d out ≡ turboshake rate m d (length out)
  unfolding turboshake
  at_written m d out lo hi f g h = one_go.at_written rate turboshake_rounds output_limit m (domain_status d) d out (fits-valid turboshake_rounds rate 0 refl zero-le pos most) (domain_taken d lo hi) f g h
