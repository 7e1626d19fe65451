-- The functions of FIPS 202 as functions of the sponge, and what the transcript of a run, document 01's book, says of them: rates, last bytes and read
-- limits as request Q-5 lists them. The close has no argument, so its status is 0.
-- Assumes nothing.
use Rattle.std.specs.Prelude.{ℕ}
use Rattle.sponge.specs.Status.{done}
use Rattle.hasher.specs.Function.{Function, long_output}

-- at a rate, with the byte after the message and the most bytes that are read
abbrev pub function : ℕ → ℕ → ℕ → Function (Unit {0})
function rate last limit = record { rate = rate; rounds = 24; byte = λ u. last; argument = λ u. done; output_limit = limit }

-- SHA-3: the digest's length is the read limit
abbrev pub sha3_224 : Function (Unit {0})
sha3_224 = function 144 0x06 28

abbrev pub sha3_256 : Function (Unit {0})
sha3_256 = function 136 0x06 32

abbrev pub sha3_384 : Function (Unit {0})
sha3_384 = function 104 0x06 48

abbrev pub sha3_512 : Function (Unit {0})
sha3_512 = function 72 0x06 64

abbrev pub shake128 : Function (Unit {0})
shake128 = function 168 0x1F long_output

abbrev pub shake256 : Function (Unit {0})
shake256 = function 136 0x1F long_output
