-- What is claimed of the six functions' runs: all that `hasher` claims of a function, that the output of which it speaks is the published one, and that
-- the digest's length is SHA-3's read limit (request Q-5).
-- Assumes nothing.
use Rattle.std.specs.Prelude.{◌≡◌, List, ℕ}
use Rattle.hasher.specs.Function.{Function, long_output, output}
use Rattle.hasher.specs.Claims as hasher
use Rattle.fips202.specs.Published.{sha3, shake}
use Rattle.fips202.specs.Transcript as transcript

-- of F, whose first k bytes for the message m are published as f m k, and of which at most so many are read
pub record Of (F : Function (Unit {0})) (f : List ℕ → ℕ → List ℕ) (most : ℕ) : Type 0 where
  pub runs : hasher.Claims F
  pub published : (m : List ℕ) (k : ℕ) → output F m tt k ≡ f m k
  pub limit : F.output_limit ≡ most

pub record Claims : Type 0 where
  pub sha3_224 : Of transcript.sha3_224 (sha3 28) 28
  pub sha3_256 : Of transcript.sha3_256 (sha3 32) 32
  pub sha3_384 : Of transcript.sha3_384 (sha3 48) 48
  pub sha3_512 : Of transcript.sha3_512 (sha3 64) 64
  pub shake128 : Of transcript.shake128 (shake 16) long_output
  pub shake256 : Of transcript.shake256 (shake 32) long_output
