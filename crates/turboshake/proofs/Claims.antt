-- TurboSHAKE is a function of which `hasher` proves its claims, at every rate from 1 to 200; the two strengths differ in a number.
-- Assumes nothing.
use mathlib.Core.Path.{◌≡◌, refl}
use mathlib.Core.Bool.{Bool, true, false, cond, ◌&&◌}
use Prim.Native.Nat.{ℕ, ◌<◌, ◌≤◌, zero-le}
use native.Mathlib.Omega.{arith}
use borrow.Author.Tests.{le-leb}
use lib.Dec.{leb}
use Rattle.sponge.specs.Status.{unreachable}
use Rattle.sponge.proofs.Valid.{fits-valid}
use Rattle.hasher.specs.Claims.{Meets}
use Rattle.hasher.proofs.Laws.{output_is}
use Rattle.hasher.proofs.Claims as hasher
use Rattle.turboshake.specs.Published.{turboshake_rounds, turboshake}
use Rattle.turboshake.specs.Transcript.{domain_status, function}
use Rattle.turboshake.specs.Claims.{At, Claims}
use Rattle.turboshake.proofs.Examples.{examples}

pub domain_taken : (d : ℕ) → 0 < d → d ≤ 0x7F → domain_status d ≡ 0
unfolding domain_status
domain_taken d h g = rw (le-leb 1 d h, le-leb d 0x7F g)

no_five : (d : ℕ) → domain_status d ≡ unreachable → ⊥
unfolding domain_status
no_five d e = by (leb 1 d && leb d 0x7F) e
  where
    by : (t : Bool) → cond t 0 1 ≡ unreachable → ⊥
    by true e = omega arith
    by false e = omega arith

pub meets : (rate : ℕ) → 0 < rate → rate ≤ 200 → Meets (function rate)
meets rate pos most = record {
  taken = fits-valid turboshake_rounds rate 0 refl zero-le pos most;
  some = 1;
  some_taken = domain_taken 1 (omega arith) (omega arith);
  some_byte = omega arith;
  no_five = no_five;
  limit-fits = omega arith;
}

at : (rate : ℕ) → 0 < rate → rate ≤ 200 → At rate
unfolding turboshake
at rate pos most = record { runs = hasher.claims (function rate) (meets rate pos most); published = output_is (function rate) }

pub claims : Claims
claims = record { turboshake128 = at 168 (omega arith) (omega arith); turboshake256 = at 136 (omega arith) (omega arith); examples = examples (meets 168 (omega arith) (omega arith)) }
