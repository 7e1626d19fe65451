-- The five steps of Keccak-p[1600] and its round: FIPS 202, sections 3.2 and 3.3, on whole lanes.
-- Assumes nothing.
use Rattle.std.specs.Prelude.{List, [], ◌∷◌, ℕ, zero, suc, ◌+◌, ◌-◌, ◌*◌, ◌/◌, ◌%◌, ◌^◌, get_or, set}
use Rattle.std.specs.Int.Bits.{bit_xor, bit_and, bit_or}
use Rattle.keccak.specs.State.{lane, grid}

-- ---- words of 64 bits

-- x rotated left by n places: bit z moves to bit (z + n) mod 64; by none it is x, where the other line would shift by 64
unfoldable pub rotl : ℕ → ℕ → ℕ
rotl x zero = x
rotl x (suc n) = bit_or ((x * 2 ^ suc n) % 2 ^ 64) (x / 2 ^ (64 - suc n))

-- every bit of x inverted
unfoldable pub complement : ℕ → ℕ
complement x = (2 ^ 64 - 1) - x

-- ---- theta (section 3.2.1)

-- C[x], the parity of column x
unfoldable pub parity : List ℕ → ℕ → ℕ
parity a x = bit_xor (bit_xor (bit_xor (bit_xor (lane a x 0) (lane a x 1)) (lane a x 2)) (lane a x 3)) (lane a x 4)

-- D[x] is C[x - 1] XOR (C[x + 1] rotated by one); x + 4 is x - 1 modulo 5
unfoldable pub theta : List ℕ → List ℕ
theta a = grid (λ x y. bit_xor (lane a x y) (bit_xor (parity a (x + 4)) (rotl (parity a (x + 1)) 1)))

-- ---- rho (section 3.2.2)

-- the offset of lane (x, y), at x + 5 y: document 01's table, FIPS 202's table 2 modulo 64
abbrev pub offsets : List ℕ
offsets = 0 ∷ 1 ∷ 62 ∷ 28 ∷ 27 ∷ 36 ∷ 44 ∷ 6 ∷ 55 ∷ 20 ∷ 3 ∷ 10 ∷ 43 ∷ 25 ∷ 39 ∷ 41 ∷ 45 ∷ 15 ∷ 21 ∷ 8 ∷ 18 ∷ 2 ∷ 61 ∷ 56 ∷ 14 ∷ []

unfoldable pub rho : List ℕ → List ℕ
rho a = grid (λ x y. rotl (lane a x y) (lane offsets x y))

-- ---- pi (section 3.2.3)

unfoldable pub pi : List ℕ → List ℕ
pi a = grid (λ x y. lane a (x + 3 * y) x)

-- ---- chi (section 3.2.4)

unfoldable pub chi : List ℕ → List ℕ
chi a = grid (λ x y. bit_xor (lane a x y) (bit_and (complement (lane a (x + 1) y)) (lane a (x + 2) y)))

-- ---- iota (section 3.2.5): the round constant goes into lane (0, 0)

unfoldable pub iota : ℕ → List ℕ → List ℕ
iota rc a = set a 0 (bit_xor (get_or a 0 0) rc)

-- ---- Rnd (section 3.3), for the round whose constant is rc

unfoldable pub round : ℕ → List ℕ → List ℕ
round rc a = iota rc (chi (pi (rho (theta a))))
