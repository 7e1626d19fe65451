-- What a caller knows of calls in a row on the code's own structs: a message absorbed in whatever pieces, finalized and squeezed.
-- Assumes nothing.
use mathlib.Core.Path.{◌≡◌, refl, ap, ◌∙◌}
use mathlib.Core.List.{List, [], ◌++◌}
use Prim.Native.Nat.{ℕ, ◌≤◌, ◌<◌}
use lib.ListN.{length}
use Rattle.sponge.specs.Count.{Counted}
use Rattle.sponge.specs.Transcript.{Call.absorb, Call.finalize, Call.squeeze, Reply, lent}
use Rattle.sponge.specs.Runs as runs
use Rattle.sponge.proofs.Pieces as pieces
use Rattle.hasher.specs.Function.{message_limit, Function, output, rules}
use Rattle.hasher.specs.Model.{machine, held, fresh_of, answer, written}
use Rattle.hasher.specs.declared.Run.{Run}
use Rattle.hasher.specs.declared.Answer.{Answer}
use Rattle.hasher.proofs.Claims.{replied, answer_replied, written-lent}
use Rattle.hasher.proofs.Laws.{laws}
use Rattle.hasher.specs.Claims.{Meets}
use Rattle.hasher.proofs.Streaming.{positive}

module _ {A : Type 0} (F : Function A) where
  -- the run after the message m, and after its finalize with a
  pub absorbed_run : List ℕ → Run
  absorbed_run m = held (pieces.absorbed_run (rules F) (machine F) m)

  pub finalized_run : List ℕ → A → Run
  finalized_run m a = held (pieces.finalized_run (rules F) (machine F) m a)

  pub fresh-absorbed : fresh_of ≡ absorbed_run []
  unfolding fresh_of absorbed_run machine
  fresh-absorbed = refl

  module _ (E : Meets F) where
    pub absorb_piece : (m p : List ℕ) → length (m ++ p) ≤ message_limit → answer F (absorbed_run m) (absorb p) ≡ record { run = absorbed_run (m ++ p); status = 0 }
    unfolding absorbed_run rules
    absorb_piece m p l = answer_replied F E (absorbed_run m) (absorb p) ∙ ap replied (pieces.absorb_piece (rules F) (machine F) (laws F (positive F E)) m p refl l)

    pub absorb_long : (m p : List ℕ) → length m ≤ message_limit → message_limit < length (m ++ p) → answer F (absorbed_run m) (absorb p) ≡ record { run = absorbed_run m; status = 2 }
    unfolding absorbed_run rules
    absorb_long m p h l = answer_replied F E (absorbed_run m) (absorb p) ∙ ap replied (pieces.absorb_long (rules F) (machine F) (laws F (positive F E)) m p refl h l)

    pub finalize-run : (m : List ℕ) (a : A) → length m ≤ message_limit → F.argument a ≡ 0 → answer F (absorbed_run m) (finalize a) ≡ record { run = finalized_run m a; status = 0 }
    unfolding absorbed_run finalized_run rules
    finalize-run m a h e = answer_replied F E (absorbed_run m) (finalize a) ∙ ap replied (pieces.finalize-run (rules F) (machine F) (laws F (positive F E)) m a h e)

    -- the published output, or a refusal that leaves the output as it was
    pub squeeze-run : (m : List ℕ) (a : A) (out : List ℕ) → length m ≤ message_limit → F.argument a ≡ 0 → length out ≤ F.output_limit
        → ((answer F (finalized_run m a) (squeeze (length out))).status ≡ 0) × (written F (finalized_run m a) out ≡ output F m a (length out))
    unfolding finalized_run rules
    squeeze-run m a out h t l =
        let e = pieces.squeeze-run (rules F) (machine F) (laws F (positive F E)) m a (length out) h t l in (
          ap (λ (x : Answer). x.status) (answer_replied F E (finalized_run m a) (squeeze (length out))) ∙ ap (λ (y : Reply (runs.Run Counted)). y.status) e,
          written-lent F E (finalized_run m a) out ∙ ap (λ (y : Reply (runs.Run Counted)). lent y.status y.bytes out) e,
        )

    pub squeeze_long : (m : List ℕ) (a : A) (out : List ℕ) → length m ≤ message_limit → F.argument a ≡ 0 → F.output_limit < length out
        → ((answer F (finalized_run m a) (squeeze (length out))).status ≡ 6) × (written F (finalized_run m a) out ≡ out)
    unfolding finalized_run rules
    squeeze_long m a out h t l =
        let e = pieces.squeeze_long (rules F) (machine F) (laws F (positive F E)) m a (length out) h t l in (
          ap (λ (x : Answer). x.status) (answer_replied F E (finalized_run m a) (squeeze (length out))) ∙ ap (λ (y : Reply (runs.Run Counted)). y.status) e,
          written-lent F E (finalized_run m a) out ∙ ap (λ (y : Reply (runs.Run Counted)). lent y.status y.bytes out) e,
        )
