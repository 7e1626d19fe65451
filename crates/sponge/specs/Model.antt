-- The sponge byte by byte, and what each call on lent lanes and a position does on every input.
-- A full block is permuted when its next byte arrives or at the padding, and on reading when a byte past it is asked.
-- Assumes nothing.
use Rattle.std.specs.Prelude.{List, [], ◌∷◌, Bool, cond, ◌&&◌, ℕ, zero, suc, ◌-◌, length, leb}
use Rattle.keccak.specs.State.{byte_at}
use Rattle.keccak.specs.Permutation.{rounds_status, last_rounds}
use Rattle.sponge.specs.Published.{xor_byte, zero_lanes}
use Rattle.sponge.specs.Waiting.{At, ready, step, steps}
use Rattle.sponge.specs.Status.{done, unreachable, first_of}
use Rattle.sponge.specs.Transcript.{lent}

-- 25 lanes and the position in the block
abbrev pub Sponge : Type 0
Sponge = At (List ℕ)

abbrev pub fresh : Sponge
fresh = record { value = zero_lanes; position = 0 }

-- over any value that is permuted: the lanes, or the lanes with a count beside them
module _ {X : Type 0} (P : X → X) (rate : ℕ) where
  -- the byte d follows the message, 80 goes into the block's last byte, and the permutation follows
  unfoldable pub pad_with : (X → ℕ → ℕ → X) → At X → ℕ → At X
  pad_with put s d = record { value = P (put (step P put rate s d).value (rate - 1) 0x80); position = 0 }

  -- what is left after a byte of output, and after k bytes
  abbrev pub after_byte : At X → At X
  after_byte s = record { value = (ready P rate s).value; position = suc (ready P rate s).position }

  abbrev pub after_bytes : ℕ → At X → At X
  after_bytes zero s = s
  after_bytes (suc k) s = after_bytes k (after_byte s)

module _ (P : List ℕ → List ℕ) (rate : ℕ) where
  abbrev pub absorb_bytes : Sponge → List ℕ → Sponge
  absorb_bytes = steps P xor_byte rate

  abbrev pub pad : Sponge → ℕ → Sponge
  pad = pad_with P rate xor_byte

  -- a byte of output, and k bytes
  abbrev pub squeeze_byte : Sponge → ℕ
  squeeze_byte s = byte_at (ready P rate s).value (ready P rate s).position

  abbrev pub squeeze_bytes : ℕ → Sponge → List ℕ
  squeeze_bytes zero s = []
  squeeze_bytes (suc k) s = squeeze_byte s ∷ squeeze_bytes k (after_byte P rate s)

-- ---- the calls

-- a rate is 1 to 200 bytes, a position 0 to the rate
unfoldable pub valid : ℕ → ℕ → Bool
valid rate position = leb 1 rate && (leb rate 200 && leb position rate)

-- a call's status, and the lanes and the position that it leaves
pub record Outcome : Type 0 where
  pub status : ℕ
  pub state : Sponge

-- the status of a call: 16 for more than 24 rounds, then 5 for what is no rate or no position
unfoldable pub call_status : ℕ → ℕ → ℕ → ℕ
call_status rounds rate position = first_of (rounds_status rounds) (cond (valid rate position) done unreachable)

-- done; or refused, and all is as it was
abbrev pub outcome : ℕ → Sponge → Sponge → Outcome
outcome zero new old = record { status = done; state = new }
outcome (suc n) new old = record { status = suc n; state = old }

module _ (rounds rate : ℕ) (s : Sponge) where
  unfoldable pub absorb_call : List ℕ → Outcome
  absorb_call piece = outcome (call_status rounds rate s.position) (absorb_bytes (last_rounds rounds) rate s piece) s

  unfoldable pub pad_call : ℕ → Outcome
  pad_call d = outcome (call_status rounds rate s.position) (pad (last_rounds rounds) rate s d) s

  unfoldable pub squeeze_call : ℕ → Outcome
  squeeze_call k = outcome (call_status rounds rate s.position) (after_bytes (last_rounds rounds) rate k s) s

  -- what the lent output holds after a squeeze, which held `out` before
  unfoldable pub squeeze_output : List ℕ → List ℕ
  squeeze_output out = lent (call_status rounds rate s.position) (squeeze_bytes (last_rounds rounds) rate (length out) s) out
