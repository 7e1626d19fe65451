-- The sponge by blocks, as draft-irtf-cfrg-kangarootwelve-16 words it in section 2.2: over a permutation of 25 lanes, a rate in
-- bytes and the byte that follows the message. A byte string is a list of numbers below 256. Of whole bytes it is SPONGE of FIPS 202, section 4, too, with
-- pad10*1 of section 5.1, whose first bit is in the byte that follows the message.
-- Assumes nothing.
use Rattle.std.specs.Prelude.{List, [], ◌∷◌, ◌++◌, ℕ, zero, suc, ◌-◌, ◌*◌, ◌/◌, ◌%◌, ◌^◌, length, get_or, take, set, replicate}
use Rattle.std.specs.Int.Bits.{bit_xor}
use Rattle.keccak.specs.State.{byte_at}
use Rattle.sponge.specs.Cut.{ceil, cut, puts}

-- bytes i, i + 1, .. of a state, k of them
abbrev pub bytes_from : List ℕ → ℕ → ℕ → List ℕ
bytes_from a i zero = []
bytes_from a i (suc k) = byte_at a i ∷ bytes_from a (suc i) k

-- b XORed into byte i of a state: byte i % 8 of lane i / 8, the least significant first
unfoldable pub xor_byte : List ℕ → ℕ → ℕ → List ℕ
xor_byte a i b = set a (i / 8) (bit_xor (get_or a (i / 8) 0) (b * 2 ^ (8 * (i % 8))))

-- v XORed into the last byte
abbrev pub xor_last : ℕ → List ℕ → List ℕ
xor_last v [] = []
xor_last v (x ∷ []) = bit_xor x v ∷ []
xor_last v (x ∷ y ∷ s) = x ∷ xor_last v (y ∷ s)

-- the state that absorbing starts from
unfoldable pub zero_lanes : List ℕ
zero_lanes = replicate 25 0

-- zeros at the end up to the next multiple of the rate, none where the length is one, and 0x80 XORed into the last byte
unfoldable pub padded : ℕ → List ℕ → List ℕ
padded rate s = xor_last 0x80 (s ++ replicate (ceil rate (length s) * rate - length s) 0)

module _ (P : List ℕ → List ℕ) where
  -- the blocks are XORed into the first bytes of the state, each followed by the permutation
  abbrev pub absorb_blocks : List ℕ → List (List ℕ) → List ℕ
  absorb_blocks a [] = a
  absorb_blocks a (p ∷ ps) = absorb_blocks (P (puts xor_byte a 0 p)) ps

  module _ (rate : ℕ) where
    -- the first rate bytes of the state, then the permutation, n times
    abbrev pub squeeze_blocks : ℕ → List ℕ → List ℕ
    squeeze_blocks zero a = []
    squeeze_blocks (suc n) a = bytes_from a 0 rate ++ squeeze_blocks n (P a)

    -- the state after the absorbing phase: the message m followed by the byte d
    unfoldable pub absorbed : List ℕ → ℕ → List ℕ
    absorbed m d = absorb_blocks zero_lanes (cut rate (padded rate (m ++ d ∷ [])))

    -- n bytes of output
    unfoldable pub sponge : List ℕ → ℕ → ℕ → List ℕ
    sponge m d n = take n (squeeze_blocks (ceil rate n) (absorbed m d))
