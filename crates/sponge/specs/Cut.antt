-- Cutting a byte string into pieces of one length: the blocks of a sponge, the chunks of a tree. (The pieces of a message that a call
-- absorbs have any length, and are cut nowhere here.)
-- Assumes nothing.
use Rattle.std.specs.Prelude.{List, [], ◌∷◌, ℕ, zero, suc, ◌+◌, ◌-◌, ◌/◌, length, take, drop}

-- how many pieces of r bytes hold n bytes
abbrev pub ceil : ℕ → ℕ → ℕ
ceil r n = (n + (r - 1)) / r

-- the first n pieces of r bytes
abbrev pub pieces : ℕ → ℕ → List ℕ → List (List ℕ)
pieces zero r s = []
pieces (suc n) r s = take r s ∷ pieces n r (drop r s)

-- s cut into pieces of r bytes: none where it is empty, else the last has 1 to r
abbrev pub cut : ℕ → List ℕ → List (List ℕ)
cut r s = pieces (ceil r (length s)) r s

-- bytes put into a value one after the other, from position i on
module _ {X : Type 0} (put : X → ℕ → ℕ → X) where
  abbrev pub puts : X → ℕ → List ℕ → X
  puts x i [] = x
  puts x i (b ∷ bs) = puts (put x i b) (suc i) bs
