-- The call in one go: its status by cases, and absorb, pad and squeeze in a row give the published output.
-- Assumes nothing.
use mathlib.Core.Path.{◌≡◌, refl, ap, sym, ◌∙◌}
use mathlib.Core.List.{List}
use Prim.Native.Nat.{ℕ, ◌+◌, ◌≤◌, ◌<◌, zero-le}
use native.Mathlib.Omega.{arith}
use borrow.Author.Tests.{eq-eqb, ne_eqb, le-leb, lt-leb}
use lib.ListN.{length, replicate}
use Rattle.keccak.specs.Permutation.{rounds_status, last_rounds}
use Rattle.sponge.specs.Published.{xor_byte, sponge}
use Rattle.sponge.specs.Transcript.{lent}
use Rattle.sponge.specs.Model.{Sponge, fresh, absorb_bytes, pad, squeeze_bytes, call_status, Outcome, absorb_call, pad_call, squeeze_call, squeeze_output}
use Rattle.sponge.proofs.FirstStatus.{first_refused}
use Rattle.sponge.proofs.Position.{steps-position}
use Rattle.sponge.proofs.Published.{squeeze-sponge}
use Rattle.sponge.proofs.Valid.{fits-valid, absorb_done, pad_done, squeeze_done, output_done, zero_lanes_lem, pad-position}
use Rattle.sponge.proofs.Lent.{lent-refused}
use Rattle.hasher.specs.Function.{message_limit}
use Rattle.hasher.specs.Model.{hash_status, hash_output, hash_at_status, hash_at_output}
use Rattle.hasher.proofs.Cases.{position-le}
use Rattle.hasher.proofs.Guards.{lent_both}

-- ---- the status

module _ (limit m s n : ℕ) where
  pub hash_1 : (s ≡ 0 → ⊥) → s ≡ hash_status limit m s n
  unfolding hash_status
  hash_1 e = sym (first_refused s _ e)

  module _ (e : s ≡ 0) where
    pub hash_2 : message_limit < m → 2 ≡ hash_status limit m s n
    unfolding hash_status
    hash_2 f = rw (e, lt-leb m message_limit f)

    pub hash_7 : m ≤ message_limit → n ≡ 0 → 7 ≡ hash_status limit m s n
    unfolding hash_status
    hash_7 f g = rw (e, le-leb m message_limit f, eq-eqb n 0 g)

    pub hash_6 : m ≤ message_limit → (n ≡ 0 → ⊥) → limit < n → 6 ≡ hash_status limit m s n
    unfolding hash_status
    hash_6 f g h = rw (e, le-leb m message_limit f, ne_eqb n 0 g, lt-leb n limit h)

    pub hash_0 : m ≤ message_limit → (n ≡ 0 → ⊥) → n ≤ limit → 0 ≡ hash_status limit m s n
    unfolding hash_status
    hash_0 f g h = rw (e, le-leb m message_limit f, ne_eqb n 0 g, le-leb n limit h)

-- ---- the output

module _ (rate rounds limit : ℕ) (m : List ℕ) (s d : ℕ) (out : List ℕ) where
  pub hash-refused : (hash_status limit (length m) s (length out) ≡ 0 → ⊥) → out ≡ hash_output rate rounds limit m s d out
  unfolding hash_output
  hash-refused h = lent-refused (hash_status limit (length m) s (length out)) h _ out

  pub hash-written : hash_status limit (length m) s (length out) ≡ 0 → sponge (last_rounds rounds) rate m d (length out) ≡ hash_output rate rounds limit m s d out
  unfolding hash_output
  hash-written e = rw e

  -- for any numbers
  module _ (n : ℕ) (h : n ≡ 0 → ⊥) (e : n ≡ call_status rounds rate 0) where
    pub at_refused : n ≡ hash_at_status rate rounds limit (length m) s (length out)
    unfolding hash_at_status
    at_refused = rw (← e) (sym (first_refused n _ h))

    pub at_untouched : out ≡ hash_at_output rate rounds limit m s d out
    unfolding hash_at_output
    at_untouched = rw (← e) (lent-refused n h (hash_output rate rounds limit m s d out) out)

  -- done or refused, by the one status
  pub at_lent : hash_at_output rate rounds limit m s d out ≡ lent (hash_at_status rate rounds limit (length m) s (length out)) (sponge (last_rounds rounds) rate m d (length out)) out
  unfolding hash_at_output hash_output hash_at_status
  at_lent = lent_both (call_status rounds rate 0) (hash_status limit (length m) s (length out)) (sponge (last_rounds rounds) rate m d (length out)) out

  module _ (taken : call_status rounds rate 0 ≡ 0) where
    pub at_status : hash_status limit (length m) s (length out) ≡ hash_at_status rate rounds limit (length m) s (length out)
    unfolding hash_at_status
    at_status = rw taken

    pub at_output : hash_output rate rounds limit m s d out ≡ hash_at_output rate rounds limit m s d out
    unfolding hash_at_output
    at_output = rw taken

    -- within the limits: the published output
    pub at_written : s ≡ 0 → length m ≤ message_limit → 0 < length out → length out ≤ limit → hash_at_output rate rounds limit m s d out ≡ sponge (last_rounds rounds) rate m d (length out)
    at_written e f g h =
        let some : length out ≡ 0 → ⊥ = λ e. omega arith in
        sym at_output ∙ sym (hash-written (sym (hash_0 limit (length m) s (length out) e f some h)))

-- o, p and q are what the three calls of the sponge leave, and r what the output then holds
module _ (rate : ℕ) (pos : 0 < rate) (most : rate ≤ 200) (rounds : ℕ) (few : rounds_status rounds ≡ 0) (m : List ℕ) (d : ℕ) (out : List ℕ) (o p q : Outcome) (r : List ℕ)
    (absorbs : o ≡ absorb_call rounds rate (record { value = replicate 25 0; position = 0 }) m)
    (pads : p ≡ pad_call rounds rate o.state d)
    (squeezes : q ≡ squeeze_call rounds rate p.state (length out))
    (writes : r ≡ squeeze_output rounds rate p.state out) where
  start : record { value = replicate 25 0; position = 0 } ≡ fresh
  start = ap (λ (l : List ℕ). record { value = l; position = 0 }) (sym zero_lanes_lem)

  absorbed : o.state ≡ absorb_bytes (last_rounds rounds) rate fresh m
  absorbed =
      ap (λ (u : Outcome). u.state) (absorbs ∙ absorb_done rounds rate (record { value = replicate 25 0; position = 0 }) (fits-valid rounds rate 0 few zero-le pos most) m)
      ∙ ap (λ (s : Sponge). absorb_bytes (last_rounds rounds) rate s m) start

  in_block : o.state.position ≤ rate
  in_block = rw (absorbed, steps-position (last_rounds rounds) xor_byte rate pos 0 fresh m refl) (position-le rate (0 + length m) pos)

  padded : p.state ≡ pad (last_rounds rounds) rate (absorb_bytes (last_rounds rounds) rate fresh m) d
  padded =
      ap (λ (u : Outcome). u.state) (pads ∙ pad_done rounds rate o.state (fits-valid rounds rate _ few in_block pos most) d)
      ∙ ap (λ (s : Sponge). pad (last_rounds rounds) rate s d) absorbed

  ok : call_status rounds rate p.state.position ≡ 0
  ok = rw (padded, pad-position (last_rounds rounds) rate (absorb_bytes (last_rounds rounds) rate fresh m) d) (fits-valid rounds rate 0 few zero-le pos most)

  pub row_done : q.status ≡ 0
  row_done = ap (λ (u : Outcome). u.status) (squeezes ∙ squeeze_done rounds rate p.state ok (length out))

  pub row_written : r ≡ sponge (last_rounds rounds) rate m d (length out)
  row_written =
      writes ∙ output_done rounds rate p.state ok out ∙ ap (squeeze_bytes (last_rounds rounds) rate (length out)) padded
      ∙ squeeze-sponge (last_rounds rounds) rate pos m d (length out)
