-- The six functions are functions of which `hasher` proves its claims, and their numbers are those of the standard.
-- Assumes nothing.
use mathlib.Core.Path.{◌≡◌, refl}
use mathlib.Core.List.{List}
use Prim.Native.Nat.{ℕ, ◌^◌, ◌<◌, ◌≤◌, zero-le}
use native.Mathlib.Omega.{arith}
use Rattle.sponge.proofs.Valid.{fits-valid}
use Rattle.hasher.specs.Function.{long_output, output}
use Rattle.hasher.specs.Claims.{Meets}
use Rattle.hasher.proofs.Laws.{output_is}
use Rattle.hasher.proofs.Claims as hasher
use Rattle.fips202.specs.Published.{keccak, sha3, shake}
use Rattle.fips202.specs.Transcript.{function}
use Rattle.fips202.specs.Claims.{Of, Claims}

pub meets : (rate last limit : ℕ) → 0 < rate → rate ≤ 200 → last < 256 → limit < 2 ^ 63 → Meets (function rate last limit)
meets rate last limit pos most byte fits = record {
  taken = fits-valid 24 rate 0 refl zero-le pos most;
  some = tt;
  some_taken = refl;
  some_byte = byte;
  no_five = λ a e. omega arith;
  limit-fits = fits;
}

of : (rate last limit : ℕ) (f : List ℕ → ℕ → List ℕ) → 0 < rate → rate ≤ 200 → last < 256 → limit < 2 ^ 63 → ((m : List ℕ) (k : ℕ) → output (function rate last limit) m tt k ≡ f m k)
    → Of (function rate last limit) f limit
of rate last limit f pos most byte fits same = record { runs = hasher.claims (function rate last limit) (meets rate last limit pos most byte fits); published = same; limit = refl }

pub claims : Claims
unfolding keccak sha3 shake
claims = record {
  sha3_224 = of 144 0x06 28 (sha3 28) (omega arith) (omega arith) (omega arith) (omega arith) (λ m k. output_is (function 144 0x06 28) m tt k);
  sha3_256 = of 136 0x06 32 (sha3 32) (omega arith) (omega arith) (omega arith) (omega arith) (λ m k. output_is (function 136 0x06 32) m tt k);
  sha3_384 = of 104 0x06 48 (sha3 48) (omega arith) (omega arith) (omega arith) (omega arith) (λ m k. output_is (function 104 0x06 48) m tt k);
  sha3_512 = of 72 0x06 64 (sha3 64) (omega arith) (omega arith) (omega arith) (omega arith) (λ m k. output_is (function 72 0x06 64) m tt k);
  shake128 = of 168 0x1F long_output (shake 16) (omega arith) (omega arith) (omega arith) (omega arith) (λ m k. output_is (function 168 0x1F long_output) m tt k);
  shake256 = of 136 0x1F long_output (shake 32) (omega arith) (omega arith) (omega arith) (omega arith) (λ m k. output_is (function 136 0x1F long_output) m tt k);
}
