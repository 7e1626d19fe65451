-- cSHAKE, KMAC and KMACXOF: NIST SP 800-185, sections 2.3, 3.3, 4.3 and 4.3.1, for strings and outputs of whole bytes, over the rate: 168 at the
-- strength of 128 bits, 136 at 256. Lengths are in bytes here, and in bits where the standard encodes them.
-- Assumes nothing.
use Rattle.std.specs.Prelude.{List, [], ◌∷◌, ◌++◌, Bool, true, false, cond, ℕ, ◌-◌, ◌*◌, length, replicate}
use Rattle.keccak.specs.Permutation.{last_rounds}
use Rattle.sponge.specs.Cut.{ceil}
use Rattle.sponge.specs.Digits.{digits}
use Rattle.sponge.specs.Published.{sponge}

-- ---- 2.3.1: left_encode and right_encode, of x below 2^2040, so that the number of its bytes is one byte; every length here is far below

-- the bytes of x, most significant first, at least one: 0 has one zero byte
abbrev pub one_at_least : List ℕ → List ℕ
one_at_least [] = 0 ∷ []
one_at_least (b ∷ s) = b ∷ s

abbrev pub bytes_of : ℕ → List ℕ
bytes_of x = one_at_least (digits x x)

-- with their number before them, and with their number after them
unfoldable pub left_encode : ℕ → List ℕ
left_encode x = length (bytes_of x) ∷ bytes_of x

unfoldable pub right_encode : ℕ → List ℕ
right_encode x = bytes_of x ++ length (bytes_of x) ∷ []

-- ---- 2.3.2: encode_string: the length in bits, then the string

unfoldable pub encode_string : List ℕ → List ℕ
encode_string s = left_encode (8 * length s) ++ s

-- ---- 2.3.3: bytepad(X, w): w, then X, then zeros up to a multiple of w bytes, none where the length is one

abbrev pub to_multiple : ℕ → List ℕ → List ℕ
to_multiple w s = s ++ replicate (ceil w (length s) * w - length s) 0

unfoldable pub bytepad : List ℕ → ℕ → List ℕ
bytepad s w = to_multiple w (left_encode w ++ s)

-- ---- 3.3: cSHAKE(X, L, N, S)

abbrev pub both_empty : List ℕ → List ℕ → Bool
both_empty [] [] = true
both_empty [] (c ∷ s) = false
both_empty (b ∷ n) s = false

-- what goes before X: nothing where N and S are both empty, for that is SHAKE
unfoldable pub cshake_prefix : ℕ → List ℕ → List ℕ → List ℕ
cshake_prefix rate n s = cond (both_empty n s) [] (bytepad (encode_string n ++ encode_string s) rate)

-- the byte that follows the message: the bits 1111 of SHAKE or 00 of cSHAKE, and the first bit of the padding (FIPS 202, appendix B.2)
abbrev pub shake_byte : ℕ
shake_byte = 0x1F

abbrev pub cshake_byte : ℕ
cshake_byte = 0x04

abbrev pub ending_byte : List ℕ → List ℕ → ℕ
ending_byte n s = cond (both_empty n s) shake_byte cshake_byte

-- the string that the sponge absorbs before that byte: of X, N and S
unfoldable pub cshake_string : ℕ → List ℕ → List ℕ → List ℕ → List ℕ
cshake_string rate x n s = cshake_prefix rate n s ++ x

-- X, the bytes of output, N and S
unfoldable pub cshake : ℕ → List ℕ → ℕ → List ℕ → List ℕ → List ℕ
cshake rate x l n s = sponge (last_rounds 24) rate (cshake_string rate x n s) (ending_byte n s) l

-- ---- 4.3: KMAC(K, X, L, S) = cSHAKE(bytepad(encode_string(K), rate) || X || right_encode(L), L, "KMAC", S)

-- "KMAC"
abbrev pub kmac_name : List ℕ
kmac_name = 0x4B ∷ 0x4D ∷ 0x41 ∷ 0x43 ∷ []

-- K, X and the bytes of output that are said
unfoldable pub kmac_message : ℕ → List ℕ → List ℕ → ℕ → List ℕ
kmac_message rate k x l = bytepad (encode_string k) rate ++ x ++ right_encode (8 * l)

-- the string that the sponge absorbs before its ending byte: of K, X, the bytes of output that are said, and S
unfoldable pub kmac_string : ℕ → List ℕ → List ℕ → ℕ → List ℕ → List ℕ
kmac_string rate k x l s = cshake_string rate (kmac_message rate k x l) kmac_name s

-- K, X, the bytes of output, and S
unfoldable pub kmac : ℕ → List ℕ → List ℕ → ℕ → List ℕ → List ℕ
kmac rate k x l s = cshake rate (kmac_message rate k x l) l kmac_name s

-- 4.3.1: KMACXOF says 0, whatever is asked
unfoldable pub kmacxof : ℕ → List ℕ → List ℕ → ℕ → List ℕ → List ℕ
kmacxof rate k x l s = cshake rate (kmac_message rate k x 0) l kmac_name s
