-- The lists marked P in document 01, "On both sides of each edge", each as one statement.
-- Assumes nothing.
use mathlib.Core.Path.{◌≡◌, refl, ap, ap₂, ◌∙◌}
use mathlib.Core.List.{List, [], ◌∷◌, map}
use Prim.Native.Nat.{ℕ, zero, suc}
use lib.ListN.{length, drop}
use Rattle.sponge.specs.Cut.{ceil, cut, pieces}
use Rattle.kangarootwelve.specs.Published.{length_encode, merged, chunk}

length_encodes : map length_encode (0 ∷ 12 ∷ 255 ∷ 256 ∷ 65535 ∷ 65538 ∷ [])
    ≡ (0 ∷ []) ∷ (0x0C ∷ 1 ∷ []) ∷ (0xFF ∷ 1 ∷ []) ∷ (1 ∷ 0 ∷ 2 ∷ []) ∷ (0xFF ∷ 0xFF ∷ 2 ∷ []) ∷ (1 ∷ 0 ∷ 2 ∷ 3 ∷ []) ∷ []
unfolding length_encode
length_encodes = refl

merged-strings : merged [] [] ∷ merged (0xFF ∷ []) [] ∷ merged [] (0xFF ∷ []) ∷ [] ≡ (0 ∷ []) ∷ (0xFF ∷ 0 ∷ []) ∷ (0xFF ∷ 1 ∷ 1 ∷ []) ∷ []
unfolding length_encode merged
merged-strings = refl

-- a string of n bytes has ceil(n / r) pieces
pieces_count : (n r : ℕ) (s : List ℕ) → length (pieces n r s) ≡ n
pieces_count zero r s = refl
pieces_count (suc n) r s = ap suc (pieces_count n r (drop r s))

counts : (ss : List (List ℕ)) → map (λ s. length (cut chunk s)) ss ≡ map (ceil chunk) (map length ss)
counts [] = refl
counts (s ∷ ss) = ap₂ (λ (n : ℕ) (ns : List ℕ). n ∷ ns) (pieces_count (ceil chunk (length s)) chunk s) (counts ss)

-- any strings of 1, 8,192, 8,193, 16,384 and 16,385 bytes
chunk-counts : (ss : List (List ℕ)) → map length ss ≡ 1 ∷ 8192 ∷ 8193 ∷ 16384 ∷ 16385 ∷ [] → map (λ s. length (cut chunk s)) ss ≡ 1 ∷ 1 ∷ 2 ∷ 2 ∷ 3 ∷ []
unfolding chunk
chunk-counts ss e = counts ss ∙ ap (map (ceil chunk)) e
