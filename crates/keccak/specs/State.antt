-- The state of Keccak-p[1600]: FIPS 202, section 3.1, with a lane as a number of 64 bits.
-- Assumes nothing.
use Rattle.std.specs.Prelude.{◌≡◌, List, [], ◌∷◌, ℕ, zero, suc, ◌+◌, ◌*◌, ◌/◌, ◌%◌, ◌^◌, ◌<◌, length, get_or, take, drop}

-- a list of numbers is a state: 25 lanes, each a word of 64 bits
pub record State (a : List ℕ) : Type 0 where
  pub lanes : length a ≡ 25
  pub words : (k : ℕ) → get_or a k 0 < 2 ^ 64

-- lane (x, y) stands at x + 5 y (section 3.1.2); the steps take coordinates modulo 5
abbrev pub lane : List ℕ → ℕ → ℕ → ℕ
lane a x y = get_or a (x % 5 + 5 * (y % 5)) 0

-- f i, f (i + 1), .., n of them
unfoldable pub from : ℕ → ℕ → (ℕ → ℕ) → List ℕ
from i zero f = []
from i (suc n) f = f i ∷ from (suc i) n f

-- the 25 lanes whose lane (x, y) is f x y
unfoldable pub grid : (ℕ → ℕ → ℕ) → List ℕ
grid f = from 0 25 (λ i. f (i % 5) (i / 5))

-- byte i of the 200 bytes of a state: byte i % 8 of lane i / 8, the least significant first
unfoldable pub byte_at : List ℕ → ℕ → ℕ
byte_at a i = (get_or a (i / 8) 0 / 2 ^ (8 * (i % 8))) % 256

-- the 200 bytes of a state (sections 3.1.3 and B.1)
unfoldable pub bytes_of : List ℕ → List ℕ
bytes_of a = from 0 200 (byte_at a)

-- the number whose bytes these are, the least significant first
unfoldable pub word : List ℕ → ℕ
word [] = 0
word (b ∷ bs) = b + 256 * word bs

-- the state of 200 bytes: lane (x, y) is bytes 8 (x + 5 y) to 8 (x + 5 y) + 7 (sections 3.1.2 and B.1)
unfoldable pub state_of : List ℕ → List ℕ
state_of s = from 0 25 (λ k. word (take 8 (drop (8 * k) s)))
