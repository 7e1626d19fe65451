-- The sponge byte by byte computes the published TurboSHAKE, for every rate above 0.
-- Assumes nothing.
use mathlib.Core.Path.{◌≡◌, sym, ap, ◌∙◌}
use mathlib.Core.List.{List}
use Prim.Native.Nat.{ℕ, ◌<◌}
use lib.ListN.{length}
use Rattle.keccak.specs.Permutation.{permuted}
use Rattle.sponge.specs.Model.{fresh, absorb_bytes, pad, squeeze_bytes}
use Rattle.sponge.proofs.Published.{squeeze-sponge, length-squeeze}
use Rattle.turboshake.specs.Published.{turboshake}

-- what is squeezed after m was absorbed and padded with d is the published output
pub squeeze-turboshake : (rate : ℕ) → 0 < rate → (m : List ℕ) (d n : ℕ) → squeeze_bytes permuted rate n (pad permuted rate (absorb_bytes permuted rate fresh m) d) ≡ turboshake rate m d n
unfolding turboshake
squeeze-turboshake rate pos m d n = squeeze-sponge permuted rate pos m d n

-- it has as many bytes as are asked
pub turboshake-length : (rate : ℕ) → 0 < rate → (m : List ℕ) (d n : ℕ) → length (turboshake rate m d n) ≡ n
turboshake-length rate pos m d n = ap length (sym (squeeze-turboshake rate pos m d n)) ∙ length-squeeze permuted rate pos n (pad permuted rate (absorb_bytes permuted rate fresh m) d)
