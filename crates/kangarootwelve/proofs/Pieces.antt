-- What a caller knows of calls in a row on the code's own structs: a message absorbed in whatever pieces, finalized and squeezed.
-- Assumes nothing.
use mathlib.Core.Path.{◌≡◌, refl, sym, ap}
use mathlib.Core.List.{List, [], ◌++◌}
use Prim.Native.Nat.{ℕ, ◌≤◌, ◌<◌}
use native.Mathlib.Omega.{arith}
use lib.ListN.{length}
use Rattle.sponge.specs.Transcript.{Call.absorb, Call.finalize, Call.squeeze, Reply, lent}
use Rattle.sponge.specs.Runs as runs
use Rattle.sponge.proofs.Pieces as pieces
use Rattle.turboshake.specs.Transcript.{message_limit, output_limit}
use Rattle.kangarootwelve.specs.Published.{kt}
use Rattle.kangarootwelve.specs.Transcript.{customization_limit, customization_status, rules}
use Rattle.kangarootwelve.specs.Model.{Nodes, machine, held, fresh_of, Answer, answer_of, output_of, hash_status, hash_output}
use Rattle.kangarootwelve.specs.declared.Run.{Run}
pub use Rattle.kangarootwelve.proofs.Laws.{customization-taken, customization_long}
use Rattle.kangarootwelve.proofs.Laws.{laws}
use Rattle.kangarootwelve.proofs.OneGo.{hash_0}
use Rattle.kangarootwelve.proofs.Answers.{hash_done}

-- a reply on the code's structs
answered : Reply (runs.Run Nodes) → Answer
answered y = record { status = y.status; run = held y.left }

module _ (rate chaining : ℕ) (pos : 0 < rate) where
  -- the run after the message m, and after its finalize with c
  pub absorbed_run : List ℕ → Run
  absorbed_run m = held (pieces.absorbed_run (rules rate chaining) (machine rate chaining) m)

  pub finalized_run : List ℕ → List ℕ → Run
  finalized_run m c = held (pieces.finalized_run (rules rate chaining) (machine rate chaining) m c)

  pub fresh-absorbed : fresh_of rate chaining ≡ absorbed_run []
  unfolding fresh_of absorbed_run machine
  fresh-absorbed = refl

  pub absorb_piece : (m p : List ℕ) → length (m ++ p) ≤ message_limit → answer_of rate chaining (absorbed_run m) (absorb p) ≡ record { status = 0; run = absorbed_run (m ++ p) }
  unfolding absorbed_run answer_of answered rules
  absorb_piece m p l = ap answered (pieces.absorb_piece (rules rate chaining) (machine rate chaining) (laws rate chaining pos) m p refl l)

  pub absorb_long : (m p : List ℕ) → length m ≤ message_limit → message_limit < length (m ++ p) → answer_of rate chaining (absorbed_run m) (absorb p) ≡ record { status = 2; run = absorbed_run m }
  unfolding absorbed_run answer_of answered rules
  absorb_long m p h l = ap answered (pieces.absorb_long (rules rate chaining) (machine rate chaining) (laws rate chaining pos) m p refl h l)

  pub finalize-run : (m c : List ℕ) → length m ≤ message_limit → customization_status (length c) ≡ 0
      → answer_of rate chaining (absorbed_run m) (finalize c) ≡ record { status = 0; run = finalized_run m c }
  unfolding absorbed_run finalized_run answer_of answered rules
  finalize-run m c h e = ap answered (pieces.finalize-run (rules rate chaining) (machine rate chaining) (laws rate chaining pos) m c h e)

  -- the published output, or a refusal that leaves the output as it was
  pub squeeze-run : (m c out : List ℕ) → length m ≤ message_limit → customization_status (length c) ≡ 0 → length out ≤ output_limit
      → ((answer_of rate chaining (finalized_run m c) (squeeze (length out))).status ≡ 0) × (output_of rate chaining (finalized_run m c) out ≡ kt rate chaining m c (length out))
  unfolding finalized_run answer_of output_of rules
  squeeze-run m c out h t l =
      let e = pieces.squeeze-run (rules rate chaining) (machine rate chaining) (laws rate chaining pos) m c (length out) h t l in
      (ap (λ (y : Reply (runs.Run Nodes)). y.status) e, ap (λ (y : Reply (runs.Run Nodes)). lent y.status y.bytes out) e)

  pub squeeze_long : (m c out : List ℕ) → length m ≤ message_limit → customization_status (length c) ≡ 0 → output_limit < length out
      → ((answer_of rate chaining (finalized_run m c) (squeeze (length out))).status ≡ 6) × (output_of rate chaining (finalized_run m c) out ≡ out)
  unfolding finalized_run answer_of output_of rules
  squeeze_long m c out h t l =
      let e = pieces.squeeze_long (rules rate chaining) (machine rate chaining) (laws rate chaining pos) m c (length out) h t l in
      (ap (λ (y : Reply (runs.Run Nodes)). y.status) e, ap (λ (y : Reply (runs.Run Nodes)). lent y.status y.bytes out) e)

  -- in one go, within the limits
  pub hash-run : (m c out : List ℕ) → length m ≤ message_limit → length c ≤ customization_limit → 0 < length out → length out ≤ output_limit
      → (hash_status (length m) (length c) (length out) ≡ 0) × (hash_output rate chaining m c out ≡ kt rate chaining m c (length out))
  hash-run m c out f g some h =
      let e = hash_0 (length m) (length c) (length out) f g (λ z. omega arith) h in
      (sym e, hash_done rate chaining m c out (sym e))
