-- The two cases of each call, a valid rate and position and others: what callers know of the calls' contracts.
-- Assumes nothing.
use mathlib.Core.Path.{◌≡◌, refl}
use mathlib.Core.List.{List}
use mathlib.Core.Bool.{Bool, true, false, cond, and-eq-true_iff}
use Prim.Native.Nat.{ℕ, zero, suc, ◌≤◌, ◌<◌}
use native.Mathlib.Omega.{arith}
use lib.ListN.{length, replicate}
use lib.Dec.{leb}
use borrow.Author.Tests.{leb-true, le-leb, lt-leb}
use Rattle.keccak.specs.Permutation.{rounds_status, last_rounds}
use Rattle.sponge.specs.Published.{xor_byte, zero_lanes}
use Rattle.sponge.specs.Waiting.{At}
use Rattle.sponge.specs.Status.{done, unreachable}
use Rattle.sponge.specs.Model.{Sponge, absorb_bytes, pad, pad_with, squeeze_bytes, after_bytes, valid, call_status, outcome, absorb_call, pad_call, squeeze_call, squeeze_output}
use Rattle.sponge.proofs.FirstStatus.{first_zero}
use Rattle.sponge.proofs.Lent.{lent-refused}

pub valid-fits : (rate position : ℕ) → valid rate position ≡ true → (position ≤ rate) × (0 < rate) × (rate ≤ 200)
unfolding valid
valid-fits rate position e =
    let a = (and-eq-true_iff (leb 1 rate) _).0 e in
    let b = (and-eq-true_iff (leb rate 200) (leb position rate)).0 a.1 in
    (leb-true _ _ b.1, leb-true _ _ a.0, leb-true _ _ b.0)

-- what a call with status 0 knows of its numbers
pub taken-fits : (rounds rate position : ℕ) → call_status rounds rate position ≡ 0 → (position ≤ rate) × (0 < rate) × (rate ≤ 200)
unfolding call_status
taken-fits rounds rate position e = by (valid rate position) refl (first_zero (rounds_status rounds) _ e).1
  where
    by : (t : Bool) → valid rate position ≡ t → cond t done unreachable ≡ 0 → (position ≤ rate) × (0 < rate) × (rate ≤ 200)
    by true v z = valid-fits rate position v
    by false v z = absurd (omega arith)

pub taken-rounds : (rounds rate position : ℕ) → call_status rounds rate position ≡ 0 → rounds_status rounds ≡ 0
unfolding call_status
taken-rounds rounds rate position e = (first_zero (rounds_status rounds) _ e).0

pub fits-valid : (rounds rate position : ℕ) → rounds_status rounds ≡ 0 → position ≤ rate → 0 < rate → rate ≤ 200 → call_status rounds rate position ≡ 0
unfolding call_status valid
fits-valid rounds rate position n h g f = rw (n, le-leb 1 rate g, le-leb rate 200 f, le-leb position rate h)

-- ---- the status n, by its cases; the number is a fact of its own, so that a wrong one is refused as that

pub call_16 : (n rounds rate position : ℕ) → n ≡ 16 → 24 < rounds → n ≡ call_status rounds rate position
unfolding call_status
call_16 n rounds rate position k h = rw (lt-leb rounds 24 h) k

pub call_5 : (n rounds rate position : ℕ) → n ≡ 5 → rounds ≤ 24 → valid rate position ≡ false → n ≡ call_status rounds rate position
unfolding call_status
call_5 n rounds rate position k h e = rw (le-leb rounds 24 h, e) k

pub call_0 : (n rounds rate position : ℕ) → n ≡ 0 → rounds ≤ 24 → valid rate position ≡ true → n ≡ call_status rounds rate position
unfolding call_status
call_0 n rounds rate position k h e = rw (le-leb rounds 24 h, e) k

-- ---- done

module _ (rounds rate : ℕ) (s : Sponge) (e : call_status rounds rate s.position ≡ 0) where
  pub absorb_done : (piece : List ℕ) → absorb_call rounds rate s piece ≡ record { status = done; state = absorb_bytes (last_rounds rounds) rate s piece }
  unfolding absorb_call
  absorb_done piece = rw e

  pub pad_done : (d : ℕ) → pad_call rounds rate s d ≡ record { status = done; state = pad (last_rounds rounds) rate s d }
  unfolding pad_call
  pad_done d = rw e

  pub squeeze_done : (k : ℕ) → squeeze_call rounds rate s k ≡ record { status = done; state = after_bytes (last_rounds rounds) rate k s }
  unfolding squeeze_call
  squeeze_done k = rw e

  pub output_done : (out : List ℕ) → squeeze_output rounds rate s out ≡ squeeze_bytes (last_rounds rounds) rate (length out) s
  unfolding squeeze_output
  output_done out = rw e

-- ---- refused

module _ (rounds rate : ℕ) (s : Sponge) (n : ℕ) (h : n ≡ 0 → ⊥) (e : n ≡ call_status rounds rate s.position) where
  is_refused : (new : Sponge) → record { status = n; state = s } ≡ outcome (call_status rounds rate s.position) new s
  is_refused new = rw (← e) (by n h)
    where
      by : (m : ℕ) → (m ≡ 0 → ⊥) → record { status = m; state = s } ≡ outcome m new s
      by zero g = absurd (g refl)
      by (suc m) g = refl

  pub absorb-refused : (piece : List ℕ) → record { status = n; state = s } ≡ absorb_call rounds rate s piece
  unfolding absorb_call
  absorb-refused piece = is_refused _

  pub pad-refused : (d : ℕ) → record { status = n; state = s } ≡ pad_call rounds rate s d
  unfolding pad_call
  pad-refused d = is_refused _

  pub squeeze-refused : (k : ℕ) → record { status = n; state = s } ≡ squeeze_call rounds rate s k
  unfolding squeeze_call
  squeeze-refused k = is_refused _

  pub output-refused : (out : List ℕ) → out ≡ squeeze_output rounds rate s out
  unfolding squeeze_output
  output-refused out = rw (← e) (lent-refused n h (squeeze_bytes (last_rounds rounds) rate (length out) s) out)

-- a fresh state is 25 zeros
pub zero_lanes_lem : zero_lanes ≡ replicate 25 0
unfolding zero_lanes
zero_lanes_lem = refl

-- a padded block is a new one, whatever is permuted
pub pad_with-position : {X : Type 0} (P : X → X) (rate : ℕ) (put : X → ℕ → ℕ → X) (s : At X) (d : ℕ) → (pad_with P rate put s d).position ≡ 0
unfolding pad_with
pad_with-position P rate put s d = refl

pub pad-position : (P : List ℕ → List ℕ) (rate : ℕ) (s : Sponge) (d : ℕ) → (pad P rate s d).position ≡ 0
pad-position P rate s d = pad_with-position P rate xor_byte s d
