-- KT128, KT256, HopMAC128 and HopMAC256: draft-irtf-cfrg-kangarootwelve-16, sections 3 and 4, over the rate, the length of a chaining
-- value and that of an inner digest.
-- Assumes nothing.
use Rattle.std.specs.Prelude.{List, [], ◌∷◌, ◌++◌, ℕ, length, replicate}
use Rattle.sponge.specs.Cut.{cut}
use Rattle.sponge.specs.Digits.{digits}
use Rattle.turboshake.specs.Published.{turboshake}

-- ---- 3.3: length_encode

-- the bytes of x, most significant first, then one byte with their number
unfoldable pub length_encode : ℕ → List ℕ
length_encode x = digits x x ++ length (digits x x) ∷ []

-- ---- 3.2: the tree

-- S = M || C || length_encode(|C|)
unfoldable pub merged : List ℕ → List ℕ → List ℕ
merged m c = m ++ c ++ length_encode (length c)

-- the length of a chunk
unfoldable pub chunk : ℕ
chunk = 8192

-- what follows S_0 in the final node, and what ends it
unfoldable pub marker : List ℕ
marker = 0x03 ∷ replicate 7 0

unfoldable pub trailer : List ℕ
trailer = 0xFF ∷ 0xFF ∷ []

-- the domain separation bytes of a single node, an intermediate node and the final node
abbrev pub single_domain : ℕ
single_domain = 0x07

abbrev pub intermediate_domain : ℕ
intermediate_domain = 0x0B

abbrev pub final_domain : ℕ
final_domain = 0x06

module _ (rate chaining : ℕ) where
  -- CV_i = TurboSHAKE(S_i, 0B, chaining), joined in order
  abbrev pub chaining_values : List (List ℕ) → List ℕ
  chaining_values [] = []
  chaining_values (s ∷ ss) = turboshake rate s intermediate_domain chaining ++ chaining_values ss

  -- of k chunks: S_0, the marker, CV_1 .. CV_(k-1), length_encode(k - 1), FF FF; ss is S_1 .. S_(k-1)
  abbrev pub final_node_of : List ℕ → List (List ℕ) → List ℕ
  final_node_of s ss = s ++ marker ++ chaining_values ss ++ length_encode (length ss) ++ trailer

  -- the output of n bytes for the chunks: one, or more
  abbrev pub tree : List (List ℕ) → ℕ → List ℕ
  tree [] n = []
  tree (s ∷ []) n = turboshake rate s single_domain n
  tree (s ∷ t ∷ ts) n = turboshake rate (final_node_of s (t ∷ ts)) final_domain n

  -- KT(M, C, L): S has at least one byte, so at least one chunk
  unfoldable pub kt : List ℕ → List ℕ → ℕ → List ℕ
  kt m c n = tree (cut chunk (merged m c)) n

-- 3.2 and 3.4: the two strengths differ in two numbers, the rate and the chaining length; then M, C and the bytes of output
abbrev pub kt128 : List ℕ → List ℕ → ℕ → List ℕ
kt128 = kt 168 32

abbrev pub kt256 : List ℕ → List ℕ → ℕ → List ℕ
kt256 = kt 136 64

-- ---- 4: HopMAC(Key, M, C, L) = KT(Key, KT(M, C, inner), L): the key stands as message, the inner digest as customization string

-- the rate, the chaining length, the length of the inner digest; then Key, M, C and the bytes of output
unfoldable pub hopmac : ℕ → ℕ → ℕ → List ℕ → List ℕ → List ℕ → ℕ → List ℕ
hopmac rate chaining inner key m c n = kt rate chaining key (kt rate chaining m c inner) n

-- the two strengths: inner digests of 32 and 64 bytes
abbrev pub hopmac128 : List ℕ → List ℕ → List ℕ → ℕ → List ℕ
hopmac128 = hopmac 168 32 32

abbrev pub hopmac256 : List ℕ → List ℕ → List ℕ → ℕ → List ℕ
hopmac256 = hopmac 136 64 64
