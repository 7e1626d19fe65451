-- The state array bit by bit: FIPS 202, sections 3.1.2 and 3.2 to 3.3, with the standard's letters, for b = 1600, so w = 64 and l = 6.
-- The lane-wise steps of `Round` are claimed to be these (`Claims`); nothing that is computed uses these definitions.
-- Assumes nothing.
use Rattle.std.specs.Prelude.{◌≡◌, cond, ◌&&◌, List, [], ◌∷◌, ℕ, zero, suc, ◌+◌, ◌-◌, ◌*◌, ◌/◌, ◌%◌, ◌^◌, ◌<◌, eqb, get_or, set, take}
use Rattle.std.specs.Int.Bits.{bit_xor}
use Rattle.keccak.specs.State.{lane}
use Rattle.keccak.specs.Rules.{walk}

-- ---- the state array (section 3.1)

-- A[x, y, z], 0 or 1, for x and y below 5 and z below w
abbrev pub StateArray : Type 0
StateArray = ℕ → ℕ → ℕ → ℕ

-- the width of a lane, and its binary logarithm (table 1)
abbrev pub w : ℕ
w = 64

abbrev pub l : ℕ
l = 6

-- the state array of a list of lanes: bit z of a lane is the one of weight 2^z
abbrev pub bits_of : List ℕ → StateArray
bits_of a x y z = lane a x y / 2 ^ z % 2

-- S[i] of a string of bytes: bit i mod 8 of byte i / 8, the one of weight 2^(i mod 8) (section B.1)
unfoldable pub string_of : List ℕ → ℕ → ℕ
string_of s i = get_or s (i / 8) 0 / 2 ^ (i % 8) % 2

-- the state array of a string S (section 3.1.2)
unfoldable pub array_of : (ℕ → ℕ) → StateArray
array_of S x y z = S (w * (5 * y + x) + z)

-- A and B are one state array: the same bit at every place
abbrev pub Same : StateArray → StateArray → Type 0
Same A B = (x y z : ℕ) → x < 5 → y < 5 → z < w → A x y z ≡ B x y z

infixl 60 ◌⊕◌
-- the sum of two bits modulo 2
abbrev pub ◌⊕◌ : ℕ → ℕ → ℕ
◌⊕◌ = bit_xor

-- (z - k) mod m, for any k: ℕ has no negative numbers, so m k, which is a multiple of m and at least k, is added first
abbrev pub minus_mod : ℕ → ℕ → ℕ → ℕ
minus_mod z k m = (z + m * k - k) % m

-- ---- theta (section 3.2.1, Algorithm 1)

-- step 1
unfoldable pub C : StateArray → ℕ → ℕ → ℕ
C A x z = A x 0 z ⊕ A x 1 z ⊕ A x 2 z ⊕ A x 3 z ⊕ A x 4 z

-- step 2
unfoldable pub D : StateArray → ℕ → ℕ → ℕ
D A x z = C A (minus_mod x 1 5) z ⊕ C A ((x + 1) % 5) (minus_mod z 1 w)

-- step 3
unfoldable pub θ : StateArray → StateArray
θ A x y z = A x y z ⊕ D A x z

-- ---- rho (section 3.2.2, Algorithm 2)

-- A' after step 1 and the turns t < n of step 3, in which (x, y) is `walk t` (steps 2 and 3b); a bit that none of them has set is 0 here
unfoldable pub ρ_turns : ℕ → StateArray → StateArray
ρ_turns zero A x y z = cond (eqb x 0 && eqb y 0) (A x y z) 0
ρ_turns (suc t) A x y z = cond (eqb x (walk t).0 && eqb y (walk t).1) (A x y (minus_mod z ((t + 1) * (t + 2) / 2) w)) (ρ_turns t A x y z)

-- t from 0 to 23
unfoldable pub ρ : StateArray → StateArray
ρ = ρ_turns 24

-- ---- pi (section 3.2.3, Algorithm 3)

unfoldable pub π : StateArray → StateArray
π A x y z = A ((x + 3 * y) % 5) x z

-- ---- chi (section 3.2.4, Algorithm 4)

unfoldable pub χ : StateArray → StateArray
χ A x y z = A x y z ⊕ ((A ((x + 1) % 5) y z ⊕ 1) * A ((x + 2) % 5) y z)

-- ---- rc (section 3.2.5, Algorithm 5): R is a string of bits

-- R[k] = R[k] ⊕ R[8]
abbrev pub xor_r8 : ℕ → List ℕ → List ℕ
xor_r8 k R = set R k (get_or R k 0 ⊕ get_or R 8 0)

-- steps 3a to 3f: R = 0 || R; R[8] is added to R[0], R[4], R[5] and R[6]; R = Trunc8[R]
unfoldable pub r_turn : List ℕ → List ℕ
r_turn R = take 8 (xor_r8 6 (xor_r8 5 (xor_r8 4 (xor_r8 0 (0 ∷ R)))))

-- R after step 2 and i turns of step 3
unfoldable pub r_turns : ℕ → List ℕ
r_turns zero = 1 ∷ 0 ∷ 0 ∷ 0 ∷ 0 ∷ 0 ∷ 0 ∷ 0 ∷ []
r_turns (suc i) = r_turn (r_turns i)

-- step 4: R[0] after t mod 255 turns; after none it is 1, as step 1 says
unfoldable pub rc : ℕ → ℕ
rc t = get_or (r_turns (t % 255)) 0 0

-- ---- iota (section 3.2.5, Algorithm 6)

-- RC[z] after step 2, where each is 0, and the turns j < n of step 3
unfoldable pub rc_turns : ℕ → ℕ → ℕ → ℕ
rc_turns zero i z = 0
rc_turns (suc j) i z = cond (eqb z (2 ^ j - 1)) (rc (j + 7 * i)) (rc_turns j i z)

-- j from 0 to l
unfoldable pub RC : ℕ → ℕ → ℕ
RC = rc_turns (l + 1)

-- steps 1 and 4; i is the round index
unfoldable pub ι : StateArray → ℕ → StateArray
ι A i x y z = cond (eqb x 0 && eqb y 0) (A x y z ⊕ RC i z) (A x y z)

-- ---- the round and Keccak-p[1600, n] (section 3.3; of Algorithm 7 step 2, on state arrays)

unfoldable pub rnd : StateArray → ℕ → StateArray
rnd A i = ι (χ (π (ρ (θ A)))) i

-- the rounds i, i + 1, .., k of them
unfoldable pub rnds : ℕ → ℕ → StateArray → StateArray
rnds zero i A = A
rnds (suc k) i A = rnds k (suc i) (rnd A i)

-- step 2: the rounds from 12 + 2 l - n to 12 + 2 l - 1, for n up to 12 + 2 l, which is 24
unfoldable pub keccak_p : ℕ → StateArray → StateArray
keccak_p n A = rnds n (12 + 2 * l - n) A
