-- What undoes the five steps of Keccak-p[1600], its round and its rounds, on whole lanes. FIPS 202 gives the steps (sections 3.2 and 3.3)
-- and no inverses: Claims.antt says that each of these undoes its step and is undone by it, on every state.
-- Assumes nothing.
use Rattle.std.specs.Prelude.{List, [], ◌∷◌, cond, ℕ, ◌+◌, ◌-◌, ◌*◌, ◌%◌, leb, get_or, drop}
use Rattle.std.specs.Int.Bits.{bit_xor, bit_and}
use Rattle.keccak.specs.State.{lane, from, grid}
use Rattle.keccak.specs.Round.{rotl, complement, parity, offsets, iota}
use Rattle.keccak.specs.Permutation.{round_constants}

-- ---- theta

-- word x of a row of five; coordinates are taken modulo 5
abbrev pub column : List ℕ → ℕ → ℕ
column p x = get_or p (x % 5) 0

-- C, the parities of the five columns
unfoldable pub parities : List ℕ → List ℕ
parities a = from 0 5 (parity a)

-- D[x] of these parities; x + 4 is x - 1 modulo 5
abbrev pub effect : List ℕ → ℕ → ℕ
effect p x = bit_xor (column p (x + 4)) (rotl (column p (x + 1)) 1)

-- each word, with the one t to the left and, rotated by t, the one t to the right; x + 4 t is x - t modulo 5. For t = 1 it is what theta does to
-- the parities; done twice it is that of 2 t; and those of 64 and 128 undo each other
unfoldable pub theta_parities : ℕ → List ℕ → List ℕ
theta_parities t p = from 0 5 (λ x. bit_xor (column p x) (bit_xor (column p (x + 4 * t)) (rotl (column p (x + t)) (t % 64))))

-- the parities before theta, from those after it
unfoldable pub untheta_parities : List ℕ → List ℕ
untheta_parities p = theta_parities 128 (theta_parities 32 (theta_parities 16 (theta_parities 8 (theta_parities 4 (theta_parities 2 (theta_parities 1 p))))))

unfoldable pub untheta : List ℕ → List ℕ
untheta a = grid (λ x y. bit_xor (lane a x y) (effect (untheta_parities (parities a)) x))

-- ---- rho

-- x rotated right by n places
unfoldable pub rotr : ℕ → ℕ → ℕ
rotr x n = rotl x ((64 - n) % 64)

unfoldable pub unrho : List ℕ → List ℕ
unrho a = grid (λ x y. rotr (lane a x y) (lane offsets x y))

-- ---- pi brings lane (x, y) to (y, 2 x + 3 y)

unfoldable pub unpi : List ℕ → List ℕ
unpi a = grid (λ x y. lane a y (2 * x + 3 * y))

-- ---- chi, on the five lanes of a plane

-- b0 XOR (NOT b1 AND (b2 XOR (NOT b3 AND b4)))
unfoldable pub unchi_lane : ℕ → ℕ → ℕ → ℕ → ℕ → ℕ
unchi_lane b0 b1 b2 b3 b4 = bit_xor b0 (bit_and (complement b1) (bit_xor b2 (bit_and (complement b3) b4)))

abbrev pub unchi_at : List ℕ → ℕ → ℕ → ℕ
unchi_at a x y = unchi_lane (lane a x y) (lane a (x + 1) y) (lane a (x + 2) y) (lane a (x + 3) y) (lane a (x + 4) y)

unfoldable pub unchi : List ℕ → List ℕ
unchi a = grid (unchi_at a)

-- ---- iota undoes itself; the round and the rounds, the last step first

unfoldable pub unround : ℕ → List ℕ → List ℕ
unround rc a = untheta (unrho (unpi (unchi (iota rc a))))

-- undoes a round for each constant: they are given in the order of the rounds, and the last is undone first
unfoldable pub unrounds : List ℕ → List ℕ → List ℕ
unrounds [] a = a
unrounds (rc ∷ rcs) a = unround rc (unrounds rcs a)

-- the last n of the 24 rounds undone; more than 24, which are refused, undo nothing
unfoldable pub last_unrounds : ℕ → List ℕ → List ℕ
last_unrounds n a = cond (leb n 24) (unrounds (drop (24 - n) round_constants) a) a
