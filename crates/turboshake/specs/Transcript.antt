-- TurboSHAKE as a function of the sponge, and what the transcript of a run, document 01's book, says of it, over the rate.
-- Assumes nothing.
use Rattle.std.specs.Prelude.{cond, ◌&&◌, ℕ, leb}
use Rattle.sponge.specs.Status.{done, bad_domain}
use Rattle.hasher.specs.Function as hasher
use Rattle.hasher.specs.Function.{Function, long_output}
use Rattle.turboshake.specs.Published.{turboshake_rounds}

abbrev pub message_limit : ℕ
message_limit = hasher.message_limit

abbrev pub output_limit : ℕ
output_limit = long_output

-- the domain separation byte is 01 to 7F
unfoldable pub domain_status : ℕ → ℕ
domain_status d = cond (leb 1 d && leb d 0x7F) done bad_domain

-- TurboSHAKE at a rate: D is the byte that follows the message
abbrev pub function : ℕ → Function ℕ
function rate = record { rate = rate; rounds = turboshake_rounds; byte = λ d. d; argument = domain_status; output_limit = output_limit }
