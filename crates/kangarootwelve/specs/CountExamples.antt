-- Worked examples of the permutations of KT128 (request Q-10), of every message of that length. proofs/CountExamples.antt fills it.
-- Assumes nothing.
use Rattle.std.specs.Prelude.{◌≡◌, List, [], ◌∷◌, ℕ, length}
use Rattle.sponge.specs.Transcript.{Call, Call.absorb, Call.customize, Call.finalize, Call.squeeze}
use Rattle.sponge.specs.Lending.{plainly}
use Rattle.kangarootwelve.specs.Published.{merged}
use Rattle.kangarootwelve.specs.Claims.{ran}

-- the permutations of a run of KT128 after these calls
abbrev pub after : List (Call (List ℕ)) → ℕ
after cs = (ran 168 32 (plainly cs)).left.permutations

pub record Examples : Type 0 where
  -- one block exactly full, and its next byte
  pub block_full : (m : List ℕ) → length m ≡ 168 → after (absorb m ∷ []) ≡ 0
  pub block_next : (m : List ℕ) → length m ≡ 169 → after (absorb m ∷ []) ≡ 1
  -- a leaf exactly full, and the next chunk's first byte: the leaf is closed
  pub leaf_full : (m : List ℕ) → length m ≡ 16384 → after (absorb m ∷ []) ≡ 96
  pub leaf_next : (m : List ℕ) → length m ≡ 16385 → after (absorb m ∷ []) ≡ 97
  -- C opens a chunk: its first byte ends chunk 0, and permutes nothing yet
  pub customization_opens : (m c : List ℕ) → length m ≡ 8192 → length c ≡ 1 → after (absorb m ∷ customize c ∷ []) ≡ 48
  -- request Q-10's: S of 8,193 bytes, whatever is M's and C's of it, and 32 read
  pub request : (m c : List ℕ) → length (merged m c) ≡ 8193 → after (absorb m ∷ finalize c ∷ squeeze 32 ∷ []) ≡ 51
  -- S of 8,193 bytes: M of 8,192, and the byte that encodes an empty C opens a chunk. Closed, and with 0, 1, 32, 168 and 169 bytes read
  pub closed : (m : List ℕ) → length m ≡ 8192 → after (absorb m ∷ finalize [] ∷ []) ≡ 51
  pub read_0 : (m : List ℕ) → length m ≡ 8192 → after (absorb m ∷ finalize [] ∷ squeeze 0 ∷ []) ≡ 51
  pub read_1 : (m : List ℕ) → length m ≡ 8192 → after (absorb m ∷ finalize [] ∷ squeeze 1 ∷ []) ≡ 51
  pub read_32 : (m : List ℕ) → length m ≡ 8192 → after (absorb m ∷ finalize [] ∷ squeeze 32 ∷ []) ≡ 51
  pub read_168 : (m : List ℕ) → length m ≡ 8192 → after (absorb m ∷ finalize [] ∷ squeeze 168 ∷ []) ≡ 51
  pub read_169 : (m : List ℕ) → length m ≡ 8192 → after (absorb m ∷ finalize [] ∷ squeeze 169 ∷ []) ≡ 52
