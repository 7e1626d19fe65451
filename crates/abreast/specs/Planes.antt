-- What the functions of a round compute, plane by plane, of one state.
-- Assumes nothing.
use Rattle.std.specs.Prelude.{List, ℕ, ◌+◌, ◌*◌, ◌%◌, set}
use Rattle.std.specs.Int.Bits.{bit_and, bit_xor}
use Rattle.keccak.specs.State.{lane}
use Rattle.keccak.specs.Round.{rotl, complement, parity, offsets}
use Rattle.abreast.specs.declared.round.Plane.{Plane}

-- theta's D
unfoldable pub effect : List ℕ → Plane
effect a =
    record {
      0 = bit_xor (parity a 4) (rotl (parity a 1) 1);
      1 = bit_xor (parity a 0) (rotl (parity a 2) 1);
      2 = bit_xor (parity a 1) (rotl (parity a 3) 1);
      3 = bit_xor (parity a 2) (rotl (parity a 4) 1);
      4 = bit_xor (parity a 3) (rotl (parity a 0) 1);
    }

-- lane (k, k + 2 y) after theta and rho, where d is D[k]
unfoldable pub turned : List ℕ → ℕ → ℕ → ℕ → ℕ
turned a d k y = rotl (bit_xor (lane a k (k + 2 * y)) d) (lane offsets k (k + 2 * y))

-- the lanes that pi brings to plane y, by their x before it
unfoldable pub moved : List ℕ → Plane → ℕ → Plane
moved a d y = record { 0 = turned a d.0 0 y; 1 = turned a d.1 1 y; 2 = turned a d.2 2 y; 3 = turned a d.3 3 y; 4 = turned a d.4 4 y }

-- chi of a lane and the two beside it
abbrev pub mixed : ℕ → ℕ → ℕ → ℕ
mixed x y z = bit_xor x (bit_and (complement y) z)

-- plane y gets what chi makes of the plane b; its lane k goes to x = k + 2 y
unfoldable pub placed : ℕ → Plane → List ℕ → List ℕ
placed y b a =
    set
    (set
    (set
    (set
    (set a (5 * y + (0 + 2 * y) % 5) (mixed b.0 b.1 b.2))
    (5 * y + (1 + 2 * y) % 5)
    (mixed b.1 b.2 b.3))
    (5 * y + (2 + 2 * y) % 5)
    (mixed b.2 b.3 b.4))
    (5 * y + (3 + 2 * y) % 5)
    (mixed b.3 b.4 b.0))
    (5 * y + (4 + 2 * y) % 5)
    (mixed b.4 b.0 b.1)
