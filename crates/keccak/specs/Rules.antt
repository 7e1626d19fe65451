-- The rules of the two tables: FIPS 202, sections 3.2.2 (Algorithm 2) and 3.2.5 (Algorithms 5 and 6). The table of offsets is `walked 24`,
-- the 24 constants are `round_constant 0` to `round_constant 23`; nothing that is computed uses these rules.
-- Assumes nothing.
use Rattle.std.specs.Prelude.{List, ℕ, zero, suc, ◌+◌, ◌-◌, ◌*◌, ◌/◌, ◌%◌, ◌^◌, set, replicate}
use Rattle.std.specs.Int.Bits.{bit_xor}

-- ---- the rotation offsets (Algorithm 2): a walk over the lanes

-- the lane (x, y) of step t: (1, 0), and after (x, y) the lane (y, 2 x + 3 y mod 5)
unfoldable pub walk : ℕ → ℕ × ℕ
walk zero = (1, 0)
walk (suc t) = let p : ℕ × ℕ = walk t in (p.1, (2 * p.0 + 3 * p.1) % 5)

-- the offset of step t
unfoldable pub step_offset : ℕ → ℕ
step_offset t = ((t + 1) * (t + 2) / 2) % 64

-- the offsets that the first t steps give, each at its lane, and 0 elsewhere
unfoldable pub walked : ℕ → List ℕ
walked zero = replicate 25 0
walked (suc t) = set (walked t) ((walk t).0 + 5 * (walk t).1) (step_offset t)

-- ---- the round constants (Algorithms 5 and 6)

-- The register R of Algorithm 5 is a number whose bit i is R[i]. Steps 3a to 3f: a zero comes in front, the bit that is
-- pushed out, R[8], is XORed into R[0], R[4], R[5] and R[6], and eight bits are kept
unfoldable pub shifted : ℕ → ℕ
shifted r = bit_xor ((2 * r) % 2 ^ 8) (((2 * r) / 2 ^ 8) * (2 ^ 0 + 2 ^ 4 + 2 ^ 5 + 2 ^ 6))

-- R after i turns of step 3; at first R[0] is 1 and the others are 0
unfoldable pub register : ℕ → ℕ
register zero = 1
register (suc i) = shifted (register i)

-- rc(t) is R[0] after t mod 255 turns (after none it is 1, as step 1 says)
unfoldable pub rc : ℕ → ℕ
rc t = register (t % 255) % 2

-- bits 2^j - 1 of RC for j below n are rc(j + 7 i), and every other bit is 0 (steps 2 and 3 of Algorithm 6)
unfoldable pub bits_below : ℕ → ℕ → ℕ
bits_below i zero = 0
bits_below i (suc j) = bits_below i j + rc (j + 7 * i) * 2 ^ (2 ^ j - 1)

-- RC of round i, for lanes of 64 bits: j = 0 to 6
unfoldable pub round_constant : ℕ → ℕ
round_constant i = bits_below i 7
