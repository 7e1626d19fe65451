-- The steps of the loops over blocks: a full block is permuted, then bytes go in or out that the block has room for.
-- Assumes nothing.
use mathlib.Core.Path.{◌≡◌, sym, ◌∙◌}
use mathlib.Core.List.{List}
use Prim.Native.Nat.{ℕ, zero, suc, ◌+◌, ◌-◌, ◌<◌, ◌≤◌}
use native.Mathlib.Omega.{arith}
use lib.ListN.{length, take, drop}
use borrow.Author.Tests.{eq-eqb, ne_eqb}
use Rattle.sponge.specs.Cut.{puts}
use Rattle.sponge.specs.Published.{xor_byte, bytes_from}
use Rattle.sponge.specs.Waiting.{ready}
use Rattle.sponge.specs.Model.{Sponge, absorb_bytes, pad, pad_with, squeeze_bytes, after_bytes}
use Rattle.sponge.proofs.Waiting.{steps_in, steps_part, steps_done}
use Rattle.sponge.proofs.Published.{squeeze_in, after_in}

module _ (P : List ℕ → List ℕ) (rate : ℕ) where
  pub ready_full : (v : List ℕ) (p : ℕ) → p ≡ rate → record { value = P v; position = 0 } ≡ ready P rate (record { value = v; position = p })
  ready_full v p e = rw (eq-eqb p rate e)

  pub ready_other : (v : List ℕ) (p : ℕ) → p < rate → record { value = v; position = p } ≡ ready P rate (record { value = v; position = p })
  ready_other v p h = rw (ne_eqb p rate (λ e. omega arith))

  -- v and `at` are the lanes and the position after the test for a full block
  module _ (s : Sponge) (v : List ℕ) (at : ℕ) (e : record { value = v; position = at } ≡ ready P rate s) (h : at < rate) where
    again : ready P rate s ≡ ready P rate (record { value = v; position = at })
    again = sym e ∙ ready_other v at h

    -- k bytes of s from index i on, which the block has room for
    pub absorb_part : (piece : List ℕ) (i k : ℕ) → i < length piece → at + k ≤ rate → i + k ≤ length piece
        → absorb_bytes P rate (record { value = puts xor_byte v at (take k (drop i piece)); position = at + k }) (drop (i + k) piece) ≡ absorb_bytes P rate s (drop i piece)
    absorb_part = steps_part P xor_byte rate s (record { value = v; position = at }) e h

    -- k bytes that the block still has
    pub squeeze_part : (k : ℕ) → 0 < k → at + k ≤ rate → squeeze_bytes P rate k s ≡ bytes_from v at k
    squeeze_part k g hk = first k g ∙ squeeze_in P rate (omega arith) k v at hk
      where
        first : (n : ℕ) → 0 < n → squeeze_bytes P rate n s ≡ squeeze_bytes P rate n (record { value = v; position = at })
        first zero g = absurd (let z : 1 ≤ 0 = g in omega arith)
        first (suc n) g = rw again

    pub after_part : (k : ℕ) → 0 < k → at + k ≤ rate → after_bytes P rate k s ≡ record { value = v; position = at + k }
    after_part k g hk = first k g ∙ after_in P rate (omega arith) k v at hk
      where
        first : (n : ℕ) → 0 < n → after_bytes P rate n s ≡ after_bytes P rate n (record { value = v; position = at })
        first zero g = absurd (let z : 1 ≤ 0 = g in omega arith)
        first (suc n) g = rw again

    -- the last byte, 80 and the permutation
    pub pad_part : (d : ℕ) → record { value = P (xor_byte (xor_byte v at d) (rate - 1) 0x80); position = 0 } ≡ pad P rate s d
    unfolding pad_with
    pad_part d = rw (← e)

  -- bytes that the block in hand has room for: m and n are the lanes and the position after them
  pub absorb_in : (v m : List ℕ) (p n : ℕ) (piece : List ℕ) → m ≡ puts xor_byte v p piece → n ≡ p + length piece → p + length piece ≤ rate
      → record { value = m; position = n } ≡ absorb_bytes P rate (record { value = v; position = p }) piece
  absorb_in v m p n piece e f h = rw (e, f, steps_in P xor_byte rate v p piece h)

  -- no bytes are left
  pub absorb_done : (s : Sponge) (piece : List ℕ) (i : ℕ) → length piece ≤ i → absorb_bytes P rate s (drop i piece) ≡ s
  absorb_done = steps_done P xor_byte rate
