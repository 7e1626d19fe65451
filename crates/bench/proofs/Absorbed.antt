-- A run that has absorbed a message, for every hasher: what its next call answers, from the laws of calls in a row.
-- Assumes nothing.
use mathlib.Core.Path.{◌≡◌, ap, sym, ◌∙◌}
use mathlib.Core.List.{List, [], ◌++◌}
use Prim.Native.Nat.{ℕ, ◌≤◌, ◌<◌, zero-le}
use native.Mathlib.Decide.{dec_le}
use native.Mathlib.Omega.{arith}
use borrow.Author.Tests.{le-leb, lt-leb}
use lib.ListN.{length, length-append}
use Rattle.std.specs.Prelude.{Result, Ok, Err}
use Rattle.sponge.specs.Transcript.{Call, Call.absorb, Call.finalize, Call.squeeze}
use Rattle.hasher.specs.Function.{message_limit}
use Rattle.hasher.specs.Outcome.{result_of}
use Rattle.hasher.specs.declared.outcome.Refusal.{Refusal}
use Rattle.bench.specs.Pieces.{Timed, read_status, read_output}

-- a hasher H whose calls answer an X
pub record Hasher (A H X : Type 0) : Type 0 where
  pub answer : H → Call A → X
  pub status : X → ℕ
  pub left : X → H
  -- what a lent output holds after a squeeze
  pub output : H → List ℕ → List ℕ
  -- the finalize's argument, and the function that is timed with it
  pub argument : A
  pub timed : Timed
  -- the hasher at the start, after a message, and after its finalize
  pub fresh : H
  pub after : List ℕ → H
  pub closed : List ℕ → H
  pub fresh_run_lem : fresh ≡ after []
  pub absorb_piece : (m p : List ℕ) → length (m ++ p) ≤ message_limit → (status (answer (after m) (absorb p)) ≡ 0) × (left (answer (after m) (absorb p)) ≡ after (m ++ p))
  pub absorb_long : (m p : List ℕ) → length m ≤ message_limit → message_limit < length (m ++ p) → status (answer (after m) (absorb p)) ≡ 2
  pub finalize-run : (m : List ℕ) → length m ≤ message_limit → left (answer (after m) (finalize argument)) ≡ closed m
  pub squeeze-run : (m out : List ℕ) → length m ≤ message_limit → length out ≤ timed.limit
      → (status (answer (closed m) (squeeze (length out))) ≡ 0) × (output (closed m) out ≡ timed.output m (length out))
  pub squeeze_long : (m out : List ℕ) → length m ≤ message_limit → timed.limit < length out
      → (status (answer (closed m) (squeeze (length out))) ≡ 6) × (output (closed m) out ≡ out)

-- ---- the squeeze, by cases

module _ (f : Timed) (m out : List ℕ) where
  read_6 : f.limit < length out → (6 ≡ read_status f (length out)) × (out ≡ read_output f m out)
  unfolding read_status read_output
  read_6 g = (rw (lt-leb (length out) f.limit g), rw (lt-leb (length out) f.limit g))

  read_0 : length out ≤ f.limit → (0 ≡ read_status f (length out)) × (f.output m (length out) ≡ read_output f m out)
  unfolding read_status read_output
  read_0 g = (rw (le-leb (length out) f.limit g), rw (le-leb (length out) f.limit g))

-- a result of a call with the status 0
accepted : (r : Result (Unit {0}) Refusal) (s : ℕ) → r ≡ result_of tt s → (k : ℕ) → s ≡ k → r ≡ result_of tt k
accepted r s e k z = e ∙ ap (λ (n : ℕ). result_of tt n) z

-- ---- the piece of a call that was done fits

abbrev number : Result (Unit {0}) Refusal → ℕ
number (Ok u) = 0
number (Err e) = 1

pub was_taken : {S : Type 0} (has : S → List ℕ → Type 0) (s t : S) (m p : List ℕ) (r : Result (Unit {0}) Refusal)
    → ((n : List ℕ) → has s n → length (n ++ p) ≤ message_limit → (r ≡ Ok tt) × has t (n ++ p))
    → ((n : List ℕ) → has s n → length n ≤ message_limit → message_limit < length (n ++ p) → r ≡ Err (record { status = 2 }))
    → has s m → length m ≤ message_limit → (u : Unit {0}) → r ≡ Ok u → (length (m ++ p) ≤ message_limit) × has t (m ++ p)
was_taken has s t m p r fit over h l u e = by (dec_le (length (m ++ p)) message_limit)
  where
    by : Dec (length (m ++ p) ≤ message_limit) → (length (m ++ p) ≤ message_limit) × has t (m ++ p)
    by (yes g) = (g, (fit m h g).1)
    by (no g) = absurd (let z : 1 ≡ 0 = ap number (sym (over m h l (omega arith)) ∙ e) in omega arith)

-- ---- the calls

module _ {A H X : Type 0} (R : Hasher A H X) where
  -- the run that has absorbed m, in one piece
  abbrev pub whole : List ℕ → H
  whole m = R.left (R.answer R.fresh (absorb m))

  whole_after : (m : List ℕ) → length m ≤ message_limit → whole m ≡ R.after m
  whole_after m l = ap (λ (h : H). R.left (R.answer h (absorb m))) R.fresh_run_lem ∙ (R.absorb_piece [] m l).1

  pub begun : (h : H) → h ≡ R.fresh → h ≡ whole []
  begun h e = e ∙ R.fresh_run_lem ∙ sym (whole_after [] zero-le)

  -- a is what the absorb of p answers, and r says whether it was done
  module _ (h : H) (p : List ℕ) (a : X) (w : a ≡ R.answer h (absorb p)) (r : Result (Unit {0}) Refusal) (z : r ≡ result_of tt (R.status a)) (m : List ℕ) (e : h ≡ whole m) where
    answer_is : length m ≤ message_limit → a ≡ R.answer (R.after m) (absorb p)
    answer_is l = w ∙ ap (λ (x : H). R.answer x (absorb p)) (e ∙ whole_after m l)

    pub fits : length (m ++ p) ≤ message_limit → (r ≡ Ok tt) × (R.left a ≡ whole (m ++ p))
    fits l =
        let n : length m ≤ message_limit = prefix l in
        let d = R.absorb_piece m p l in
        (accepted r (R.status a) z 0 (ap R.status (answer_is n) ∙ d.0), ap R.left (answer_is n) ∙ d.1 ∙ sym (whole_after (m ++ p) l))
      where
        prefix : length (m ++ p) ≤ message_limit → length m ≤ message_limit
        prefix l = let k = length-append m p in omega arith

    pub long : length m ≤ message_limit → message_limit < length (m ++ p) → r ≡ Err (record { status = 2 })
    long l g = accepted r (R.status a) z 2 (ap R.status (answer_is l) ∙ R.absorb_long m p l g)

  -- a is what the finalize answers, b what the squeeze then answers, and o what the output then holds
  module _ (h : H) (a : X) (w : a ≡ R.answer h (finalize R.argument))
      (out : List ℕ) (b : X) (v : b ≡ R.answer (R.left a) (squeeze (length out))) (o : List ℕ) (u : o ≡ R.output (R.left a) out)
      (m : List ℕ) (e : h ≡ whole m) (short : length m ≤ message_limit) where
    closes : R.left a ≡ R.closed m
    closes =
        ap R.left (w ∙ ap (λ (x : H). R.answer x (finalize R.argument)) (e ∙ whole_after m short))
        ∙ R.finalize-run m short

    status_is : R.status b ≡ R.status (R.answer (R.closed m) (squeeze (length out)))
    status_is = ap R.status v ∙ ap (λ (x : H). R.status (R.answer x (squeeze (length out)))) closes

    output_is : o ≡ R.output (R.closed m) out
    output_is = u ∙ ap (λ (x : H). R.output x out) closes

    pub read : (R.status b ≡ read_status R.timed (length out)) × (o ≡ read_output R.timed m out)
    read = by (dec_le (length out) R.timed.limit)
      where
        by : Dec (length out ≤ R.timed.limit) → (R.status b ≡ read_status R.timed (length out)) × (o ≡ read_output R.timed m out)
        by (yes g) =
            let q = R.squeeze-run m out short g in
            let p = read_0 R.timed m out g in
            (status_is ∙ q.0 ∙ p.0, output_is ∙ q.1 ∙ p.1)
        by (no g) =
            let f : R.timed.limit < length out = omega arith in
            let q = R.squeeze_long m out short f in
            let p = read_6 R.timed m out f in
            (status_is ∙ q.0 ∙ p.0, output_is ∙ q.1 ∙ p.1)
