-- The statuses of a start and of a call in one go by their cases, and what is within the limits where the status is 0.
-- Assumes nothing.
use mathlib.Core.Path.{◌≡◌, sym}
use mathlib.Core.Bool.{cond}
use Prim.Native.Nat.{ℕ, suc, ◌≤◌, ◌<◌}
use lib.Dec.{leb}
use borrow.Author.Tests.{le-leb, lt-leb, leb-true}
use Rattle.sponge.specs.Status.{done, input_too_long, first_of}
use Rattle.sponge.proofs.FirstStatus.{first_refused, first_zero}
use Rattle.sponge.proofs.Streaming.{cond-zero}
use Rattle.hasher.specs.Function.{message_limit, long_output}
use Rattle.sp800_185.specs.Function.{length_status, whole_status}
use Rattle.sp800_185.proofs.Lengths as lengths

-- ---- a start: strings of a and b bytes, with the limits x and y, and suc p and suc q past them

module _ (a x p b y q : ℕ) where
  abbrev both : ℕ
  both = first_of (cond (leb a x) done (suc p)) (cond (leb b y) done (suc q))

  pub both_fit : a ≤ x → b ≤ y → 0 ≡ both
  both_fit h g = rw (le-leb a x h, le-leb b y g)

  pub fit_both : both ≡ 0 → (a ≤ x) × (b ≤ y)
  fit_both e =
      let z = first_zero (cond (leb a x) done (suc p)) (cond (leb b y) done (suc q)) e in
      (leb-true a x (cond-zero (leb a x) p z.0), leb-true b y (cond-zero (leb b y) q z.1))

-- ---- in one go

module _ (s m l : ℕ) where
  pub whole_2 : message_limit < m → 2 ≡ whole_status s m l
  whole_2 h = rw (lt-leb m message_limit h)

  pub whole-start : m ≤ message_limit → (s ≡ 0 → ⊥) → s ≡ whole_status s m l
  whole-start h g = rw (le-leb m message_limit h) (sym (first_refused s (length_status l) g))

  pub whole_length : m ≤ message_limit → s ≡ 0 → length_status l ≡ whole_status s m l
  whole_length h e = rw (le-leb m message_limit h, e)

  -- within the limits where all is done
  pub record Within : Type 0 where
    pub message : m ≤ message_limit
    pub start : s ≡ 0
    pub few : l ≤ long_output

  pub within : whole_status s m l ≡ 0 → Within
  within e =
      let a = first_zero (cond (leb m message_limit) done input_too_long) (first_of s (length_status l)) e in
      let b = first_zero s (length_status l) a.1 in
      let h = lengths.within l (lengths.length_taken l b.1) in
      record { message = leb-true m message_limit (cond-zero (leb m message_limit) 1 a.0); start = b.0; few = h.1 }
