-- The permutations of the run that a message absorbed at once, its finalize and one squeeze leave, in the request's words: for worked examples.
-- Assumes nothing.
use mathlib.Core.Path.{◌≡◌, ap, ◌∙◌}
use mathlib.Core.List.{List, [], ◌∷◌}
use Prim.Native.Nat.{ℕ, ◌+◌, ◌≤◌}
use native.Mathlib.Nat.{zero-add}
use borrow.Author.Tests.{le-leb}
use lib.ListN.{length}
use Rattle.sponge.specs.Cut.{ceil}
use Rattle.sponge.specs.Count.{read_count}
use Rattle.sponge.specs.Transcript.{Call, Call.absorb, Call.finalize, Call.squeeze, Phase, Phase.absorbing, Phase.squeezing, phase_number, Transcript, fresh_transcript, Reply, transcribe, status_at}
use Rattle.sponge.proofs.Joining.{transcribe_done}
use Rattle.hasher.specs.Function.{message_limit, Function, rules}
use Rattle.hasher.specs.Claims.{Meets, told, ran}
use Rattle.hasher.proofs.Claims.{streams, counts}

module _ {A : Type 0} (F : Function A) (E : Meets F) (m : List ℕ) (fits : length m ≤ message_limit) where
  abbrev book : Phase A → ℕ → Transcript A
  book h n = record { absorbed = m; phase = h; squeezed = n }

  absorbed : (transcribe (rules F) fresh_transcript (absorb m)).left ≡ book absorbing 0
  unfolding rules
  absorbed =
      let s : status_at (rules F) fresh_transcript (absorb m) ≡ 0 = rw (zero-add, le-leb (length m) message_limit fits) in
      ap (λ (y : Reply (Transcript A)). y.left) (transcribe_done (rules F) fresh_transcript (absorb m) s)

  pub count_open : (ran F (absorb m ∷ [])).left.permutations ≡ read_count F.rate (length m)
  count_open =
      (counts F E (absorb m ∷ [])).while_absorbing ((streams F E (absorb m ∷ [])).phase ∙ ap (λ (t : Transcript A). phase_number t.phase) absorbed)
      ∙ ap (λ (t : Transcript A). read_count F.rate (length t.absorbed)) absorbed

  module _ (a : A) (taken : F.argument a ≡ 0) where
    finalized : (told F (absorb m ∷ finalize a ∷ [])).left ≡ book (squeezing a) 0
    unfolding rules
    finalized =
        ap (λ (t : Transcript A). (transcribe (rules F) t (finalize a)).left) absorbed
        ∙ ap (λ (y : Reply (Transcript A)). y.left) (transcribe_done (rules F) (book absorbing 0) (finalize a) taken)

    -- of a closed run, told by a list of calls
    closed_by : (cs : List (Call A)) (k : ℕ) → (told F cs).left ≡ book (squeezing a) k → (ran F cs).left.permutations ≡ ceil F.rate (length m + 1) + read_count F.rate k
    closed_by cs k e =
        (counts F E cs).once_squeezing ((streams F E cs).phase ∙ ap (λ (t : Transcript A). phase_number t.phase) e)
        ∙ ap (λ (t : Transcript A). ceil F.rate (length t.absorbed + 1) + read_count F.rate t.squeezed) e

    pub count_closed : (ran F (absorb m ∷ finalize a ∷ [])).left.permutations ≡ ceil F.rate (length m + 1) + read_count F.rate 0
    count_closed = closed_by (absorb m ∷ finalize a ∷ []) 0 finalized

    pub count_read : (k : ℕ) → k ≤ F.output_limit → (ran F (absorb m ∷ finalize a ∷ squeeze k ∷ [])).left.permutations ≡ ceil F.rate (length m + 1) + read_count F.rate k
    unfolding rules
    count_read k l =
        let s : status_at (rules F) (book (squeezing a) 0) (squeeze k) ≡ 0 = rw (zero-add, le-leb k F.output_limit l) in
        closed_by (absorb m ∷ finalize a ∷ squeeze k ∷ []) k
        (ap (λ (t : Transcript A). (transcribe (rules F) t (squeeze k)).left) finalized
        ∙ ap (λ (y : Reply (Transcript A)). y.left) (transcribe_done (rules F) (book (squeezing a) 0) (squeeze k) s)
        ∙ ap (book (squeezing a)) (zero-add k))
