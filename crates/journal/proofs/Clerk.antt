-- The shift and the clerk: a day whose events were appended one by one has the digest of its message hashed in one go.
-- Assumes nothing.
use mathlib.Core.Path.{◌≡◌, sym, ap, ◌∙◌}
use mathlib.Core.List.{List}
use Prim.Native.Nat.{ℕ, ◌≤◌, ◌<◌}
use lib.ListN.{length}
use Rattle.sponge.specs.Transcript.{Phase.squeezing}
use Rattle.sponge.specs.Streaming.{joined, output_so}
use Rattle.turboshake.specs.Transcript.{message_limit, output_limit}
use Rattle.kangarootwelve.specs.Transcript as kt
use Rattle.kangarootwelve.specs.Transcript.{customization_limit}
use Rattle.kangarootwelve.specs.Model.{hash_output}
use Rattle.kangarootwelve.proofs.Pieces.{customization-taken, hash-run}
use Rattle.kangarootwelve.proofs.Answers.{argument_is, limits_are, output-published}
use Rattle.journal.specs.Published.{message}
use Rattle.journal.specs.Streaming.{ran}
use Rattle.journal.proofs.Streaming.{rate_positive, streaming-output}
use Rattle.journal.proofs.Appended.{EachFits, appends, told_appends}

-- the events appended in order, the name, and as many bytes squeezed as `out` holds
pub shift-clerk : (events : List (List ℕ)) (name out : List ℕ) → EachFits events → length (message events) ≤ message_limit → length name ≤ customization_limit → 0 < length out → length out ≤ output_limit
    → joined (ran (appends events (squeezing name) (length out))).bytes ≡ hash_output 168 32 (message events) name out
shift-clerk events name out each f g some h =
    let told = told_appends events (squeezing name) (length out) each (record {
      input_fits = rw (limits_are 168 32).0 f;
      output-fits = rw ((limits_are 168 32).1 name) h;
      phase-taken = argument_is 168 32 name ∙ customization-taken (length name) g;
    }) in
    streaming-output (appends events (squeezing name) (length out))
    ∙ ap (output_so (kt.rules 168 32)) told
    ∙ output-published 168 32 (message events) name (length out)
    ∙ sym (hash-run 168 32 rate_positive (message events) name out f g some h).1
