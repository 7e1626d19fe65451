-- What a caller can lend, and lists of calls that are all of one kind: status 5 is claimed of lists that a caller can really make.
-- Assumes nothing.
use Rattle.std.specs.Prelude.{List, [], ◌∷◌, ℕ, ◌^◌, ◌<◌, length}

abbrev pub Bytes : List ℕ → Type 0
Bytes [] = Unit {0}
Bytes (b ∷ s) = (b < 256) × Bytes s

-- bytes, as many as a slice holds: fewer than 2^63
abbrev pub Slice : List ℕ → Type 0
Slice s = Bytes s × (length s < 2 ^ 63)

abbrev pub All : {C : Type 0} → (C → Type 0) → List C → Type 0
All can [] = Unit {0}
All can (c ∷ cs) = can c × All can cs
