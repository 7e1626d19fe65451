-- The permutations of the definition so far (request Q-10): a full block is permuted when its next byte arrives or is asked for, and at the padding,
-- which ends with a permutation of its own.
-- Assumes nothing.
use Rattle.std.specs.Prelude.{List, ℕ, zero, suc, ◌+◌, ◌-◌, ◌/◌}
use Rattle.sponge.specs.Cut.{ceil}
use Rattle.sponge.specs.Published.{zero_lanes}
use Rattle.sponge.specs.Waiting.{At, index_after}
use Rattle.sponge.specs.Model.{Sponge}

-- ---- what is counted is the definition: each permutation adds one to the number beside the lanes, a byte adds nothing

abbrev pub counted : {X : Type 0} → (X → X) → X × ℕ → X × ℕ
counted P x = (P x.0, suc x.1)

abbrev pub uncounted : {X : Type 0} → (X → ℕ → ℕ → X) → X × ℕ → ℕ → ℕ → X × ℕ
uncounted put x i b = (put x.0 i b, x.1)

-- a sponge with the number beside its lanes: from a sponge and a number, and the two of it
abbrev pub Counted : Type 0
Counted = At (List ℕ × ℕ)

abbrev pub counted_from : {X : Type 0} → At X → ℕ → At (X × ℕ)
counted_from s n = record { value = (s.value, n); position = s.position }

abbrev pub sponge_of : Counted → Sponge
sponge_of s = record { value = s.value.0; position = s.position }

abbrev pub fresh_counted : Counted
fresh_counted = record { value = (zero_lanes, 0); position = 0 }

-- ---- what it comes to by the totals: of m bytes absorbed; and of m bytes absorbed, the padding and n bytes squeezed

abbrev pub open_count : ℕ → ℕ → ℕ
open_count r m = index_after r m

abbrev pub closed_count : ℕ → ℕ → ℕ → ℕ
closed_count r m n = suc (m / r) + index_after r n

-- n bytes, squeezed or absorbed, as the request words it: ceil(n / rate) - 1, or 0 when n is 0
abbrev pub read_count : ℕ → ℕ → ℕ
read_count r zero = 0
read_count r (suc n) = ceil r (suc n) - 1
