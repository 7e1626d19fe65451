-- FIPS 202, sections 5.2 and 6, for messages and outputs of whole bytes.
-- Assumes nothing.
use Rattle.std.specs.Prelude.{List, ℕ, ◌-◌, ◌*◌}
use Rattle.keccak.specs.Permutation.{last_rounds}
use Rattle.sponge.specs.Published.{sponge}

-- KECCAK[c] (section 5.2): the sponge over Keccak-p[1600, 24] at a rate of 1600 - c bits, with the padding pad10*1; c is in bytes here. The byte
-- `last` has the bits that a function puts after the message and the first bit of that padding (appendix B.2)
unfoldable pub keccak : ℕ → List ℕ → ℕ → ℕ → List ℕ
keccak c m last n = sponge (last_rounds 24) (200 - c) m last n

-- SHA-3 with a digest of n bytes (section 6.1): KECCAK[c](M || 01), c twice the digest. Of k bytes: at k = n it is the digest, below it its first bytes;
-- above it no function of the standard, and no call reads so far
unfoldable pub sha3 : ℕ → List ℕ → ℕ → List ℕ
sha3 n m k = keccak (2 * n) m 0x06 k

-- SHAKE of a strength of n bytes (section 6.2): KECCAK[c](M || 1111), c twice the strength. k bytes of output
unfoldable pub shake : ℕ → List ℕ → ℕ → List ℕ
shake n m k = keccak (2 * n) m 0x1F k
