-- TurboSHAKE: draft-irtf-cfrg-kangarootwelve-16, section 2.2. The sponge over Keccak-p[1600, 12]; the rate is 168 bytes for
-- TurboSHAKE128 and 136 for TurboSHAKE256.
-- Assumes nothing.
use Rattle.std.specs.Prelude.{List, ℕ}
use Rattle.keccak.specs.Permutation.{permuted}
use Rattle.sponge.specs.Published.{sponge}

-- the rounds of the draft's KP
abbrev pub turboshake_rounds : ℕ
turboshake_rounds = 12

-- n bytes of output for the message m and the domain separation byte d, which is 0x01 to 0x7F
unfoldable pub turboshake : ℕ → List ℕ → ℕ → ℕ → List ℕ
turboshake rate m d n = sponge permuted rate m d n

abbrev pub turboshake128 : List ℕ → ℕ → ℕ → List ℕ
turboshake128 = turboshake 168

abbrev pub turboshake256 : List ℕ → ℕ → ℕ → List ℕ
turboshake256 = turboshake 136
