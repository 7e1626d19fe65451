-- What a start answers, by its status and by whether both strings are empty.
-- Assumes nothing.
use mathlib.Core.Path.{◌≡◌}
use Prim.Native.Nat.{ℕ, ◌≤◌}
use Rattle.sp800_185.specs.Start.{string_limit, key_limit}
use Rattle.sp800_185.specs.Cshake as cshake
use Rattle.sp800_185.specs.Kmac as kmac
use Rattle.sp800_185.specs.Cshake.{Customized}
use Rattle.sp800_185.proofs.Statuses.{fit_both}

-- ---- within the limits

pub cshake-fits : (n s : ℕ) → cshake.start_status n s ≡ 0 → (n ≤ string_limit) × (s ≤ string_limit)
unfolding cshake.start_status
cshake-fits n s e = fit_both n string_limit 3 s string_limit 3 e

pub kmac-fits : (k s : ℕ) → kmac.start_status k s ≡ 0 → (k ≤ key_limit) × (s ≤ string_limit)
unfolding kmac.start_status
kmac-fits k s e = fit_both k key_limit 1 s string_limit 3 e
