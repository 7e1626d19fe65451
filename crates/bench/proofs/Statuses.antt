-- What the calls over pieces answer in all, by cases.
-- Assumes nothing.
use mathlib.Core.Path.{◌≡◌, ap}
use mathlib.Core.List.{List}
use mathlib.Core.Logic.{◌⊎◌, inl, inr}
use Prim.Native.Nat.{ℕ, ◌≤◌, ◌<◌}
use native.Mathlib.Omega.{arith}
use borrow.Author.Tests.{eq-eqb, ne_eqb, le-leb, lt-leb}
use lib.ListN.{length}
use Rattle.sponge.specs.Transcript.{lent}
use Rattle.hasher.specs.Function.{message_limit}
use Rattle.bench.specs.Pieces.{Timed, bad_step, read_status, read_output, pieces_status, pieces_output}

module _ (f : Timed) (step : ℕ) (m out : List ℕ) where
  module _ (some : 0 < step) (l : length m ≤ message_limit) where
    pub read_of_pieces : (n : ℕ) → read_status f n ≡ pieces_status f step (length m) n
    unfolding read_status pieces_status
    read_of_pieces n = rw (ne_eqb step 0 (λ e. omega arith), le-leb (length m) message_limit l)

    pub output_of_pieces : read_output f m out ≡ pieces_output f step m out
    unfolding read_output pieces_output
    output_of_pieces = ap (λ (s : ℕ). lent s (f.output m (length out)) out) (read_of_pieces (length out))

  -- a refusal: of pieces of no bytes, or of a message that is too long
  abbrev pub Refused : ℕ → Type 0
  Refused s = ((step ≡ 0) × (s ≡ bad_step)) ⊎ ((0 < step) × (message_limit < length m) × (s ≡ 2))

  pub refused : (s : ℕ) → Refused s → (s ≡ pieces_status f step (length m) (length out)) × (out ≡ pieces_output f step m out)
  unfolding pieces_status pieces_output
  refused s (inl e) = (rw (eq-eqb step 0 e.0) e.1, rw (eq-eqb step 0 e.0))
  refused s (inr e) =
      let z = ne_eqb step 0 (λ z. omega arith) in
      let g = lt-leb (length m) message_limit e.1 in
      (rw (z, g) e.2, rw (z, g))
