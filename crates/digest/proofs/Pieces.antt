-- KT128's calls in a row, from the laws of the crate kangarootwelve: a message in whatever pieces, then a finalize with an empty
-- customization string and one squeeze.
-- Assumes nothing.
use mathlib.Core.Path.{◌≡◌, sym, ap, ◌∙◌}
use mathlib.Core.List.{List, [], ◌++◌}
use mathlib.Core.Logic.{◌⊎◌, inl, inr}
use Prim.Native.Nat.{ℕ, ◌≤◌, ◌<◌, zero-le}
use native.Mathlib.Decide.{dec_le}
use native.Mathlib.Omega.{arith}
use lib.ListN.{length}
use Rattle.sponge.specs.Transcript.{Call.absorb, Call.finalize, Call.squeeze}
use Rattle.turboshake.specs.Transcript.{message_limit, output_limit}
use Rattle.kangarootwelve.specs.Model.{fresh_of, Answer, answer_of, output_of}
use Rattle.kangarootwelve.specs.declared.Run.{Run}
use Rattle.kangarootwelve.proofs.Pieces.{customization-taken, absorbed_run, finalized_run, fresh-absorbed, absorb_piece, absorb_long, finalize-run, squeeze-run}
use Rattle.digest.specs.Digest.{Left, Absorbed, Digests}

positive : 0 < 168
positive = omega arith

after : List ℕ → Run
after = absorbed_run 168 32 positive

-- ---- absorbing

at_once : (m : List ℕ) → length m ≤ message_limit → (answer_of 168 32 (fresh_of 168 32) (absorb m)).run ≡ after m
unfolding after
at_once m l = ap (λ (r : Run). (answer_of 168 32 r (absorb m)).run) (fresh-absorbed 168 32 positive) ∙ ap (λ (a : Answer). a.run) (absorb_piece 168 32 positive [] m l)

left_after : (r : Run) (m : List ℕ) → Left r m → r ≡ after m
left_after r m h = h.run ∙ at_once m h.fits

after_left : (r : Run) (m : List ℕ) → length m ≤ message_limit → r ≡ after m → Left r m
after_left r m l e = record { fits = l; run = e ∙ sym (at_once m l) }

pub fresh_absorbed : (r : Run) → r ≡ fresh_of 168 32 → Absorbed r
unfolding after
fresh_absorbed r e = record { message = []; left = after_left r [] zero-le (e ∙ fresh-absorbed 168 32 positive) }

-- a piece absorbed into the run that a message left: taken or refused
module _ (r : Run) (p : List ℕ) (held : Absorbed r) (a : Answer) (e : a ≡ answer_of 168 32 r (absorb p)) where
  answers : ((a.status ≡ 0) × Absorbed a.run) ⊎ (a.status ≡ 2)
  unfolding after
  answers = by (dec_le (length (held.message ++ p)) message_limit)
    where
      m : List ℕ
      m = held.message

      is : a ≡ answer_of 168 32 (after m) (absorb p)
      is = e ∙ ap (λ (x : Run). answer_of 168 32 x (absorb p)) (left_after r m held.left)

      by : Dec (length (m ++ p) ≤ message_limit) → ((a.status ≡ 0) × Absorbed a.run) ⊎ (a.status ≡ 2)
      by (yes l) =
          let d = is ∙ absorb_piece 168 32 positive m p l in
          inl (ap (λ (x : Answer). x.status) d, record { message = m ++ p; left = after_left a.run (m ++ p) l (ap (λ (x : Answer). x.run) d) })
      by (no l) = inr (ap (λ (x : Answer). x.status) (is ∙ absorb_long 168 32 positive m p held.left.fits (omega arith)))

  taken : ((a.status ≡ 0) × Absorbed a.run) ⊎ (a.status ≡ 2) → a.status ≡ 0 → Absorbed a.run
  taken (inl t) z = t.1
  taken (inr t) z = absurd (omega (arith, sym z ∙ t))

  pub taken_absorbed : a.status ≡ 0 → Absorbed a.run
  taken_absorbed = taken answers

  refused : ((a.status ≡ 0) × Absorbed a.run) ⊎ (a.status ≡ 2) → (a.status ≡ 0 → ⊥) → a.status ≡ 2
  refused (inl t) n = absurd (n t.0)
  refused (inr t) n = t

  pub refused_long : (a.status ≡ 0 → ⊥) → a.status ≡ 2
  refused_long = refused answers

-- ---- the digest: a is what the finalize answers, s and o the squeeze's status and output

pub digests : (r : Run) (a : Answer) (out : List ℕ) (s : ℕ) (o : List ℕ) → length out ≤ output_limit → a ≡ answer_of 168 32 r (finalize [])
    → s ≡ (answer_of 168 32 a.run (squeeze (length out))).status → o ≡ output_of 168 32 a.run out → Digests r (length out) s o
unfolding after
digests r a out s o l f t u m g =
    let taken = customization-taken 0 zero-le in
    let e : a.run ≡ finalized_run 168 32 positive m [] =
    ap (λ (x : Answer). x.run) f ∙ ap (λ (x : Run). (answer_of 168 32 x (finalize [])).run) (left_after r m g)
    ∙ ap (λ (x : Answer). x.run) (finalize-run 168 32 positive m [] g.fits taken) in
    let q = squeeze-run 168 32 positive m [] out g.fits taken l in
    (t ∙ ap (λ (x : Run). (answer_of 168 32 x (squeeze (length out))).status) e ∙ q.0, u ∙ ap (λ (x : Run). output_of 168 32 x out) e ∙ q.1)
