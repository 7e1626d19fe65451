-- Worked examples of the encodings: those of SP 800-185, sections 2.3.1 and 2.3.2, and both sides of each edge. proofs/EncodingExamples.antt fills it.
-- Assumes nothing.
use Rattle.std.specs.Prelude.{◌≡◌, List, [], ◌∷◌, ◌++◌, map, ℕ, length, replicate}
use Rattle.sp800_185.specs.Published.{left_encode, right_encode, encode_string, bytepad, kmac_name}

pub record Encodings : Type 0 where
  -- 0 has one byte, as 255; 256 has two
  pub left_encodes : map left_encode (0 ∷ 255 ∷ 256 ∷ []) ≡ (1 ∷ 0 ∷ []) ∷ (1 ∷ 0xFF ∷ []) ∷ (2 ∷ 1 ∷ 0 ∷ []) ∷ []
  pub right_encodes : map right_encode (0 ∷ 255 ∷ 256 ∷ []) ≡ (0 ∷ 1 ∷ []) ∷ (0xFF ∷ 1 ∷ []) ∷ (1 ∷ 0 ∷ 2 ∷ []) ∷ []
  -- the empty string, and "KMAC", of 32 bits
  pub strings : map encode_string ([] ∷ kmac_name ∷ []) ≡ (1 ∷ 0 ∷ []) ∷ (1 ∷ 0x20 ∷ 0x4B ∷ 0x4D ∷ 0x41 ∷ 0x43 ∷ []) ∷ []
  -- any content of rate - 2 bytes fills one block, with no zeros; a byte more, and zeros fill a second block
  pub full_168 : (s : List ℕ) → length s ≡ 166 → bytepad s 168 ≡ 1 ∷ 168 ∷ s
  pub next_168 : (s : List ℕ) → length s ≡ 167 → bytepad s 168 ≡ 1 ∷ 168 ∷ s ++ replicate 167 0
  pub full_136 : (s : List ℕ) → length s ≡ 134 → bytepad s 136 ≡ 1 ∷ 136 ∷ s
  pub next_136 : (s : List ℕ) → length s ≡ 135 → bytepad s 136 ≡ 1 ∷ 136 ∷ s ++ replicate 135 0
