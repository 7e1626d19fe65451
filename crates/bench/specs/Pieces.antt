-- A message absorbed in pieces of one length: what the benchmark's exports answer and write.
-- Assumes nothing.
use Rattle.std.specs.Prelude.{List, [], ◌∷◌, cond, ℕ, length, replicate, take, eqb, leb}
use Rattle.sponge.specs.Status.{done, input_too_long, output_too_long}
use Rattle.sponge.specs.Transcript.{lent}
use Rattle.hasher.specs.Function.{message_limit, long_output}
use Rattle.turboshake.specs.Published.{turboshake128}
use Rattle.fips202.specs.Published.{sha3, shake}
use Rattle.kangarootwelve.specs.Published.{kt, kt128, kt256}
use Rattle.sp800_185.specs.Published.{cshake, kmac}

-- a function that is timed: its published output, of the message and the number of bytes asked, and the most bytes that are read
pub record Timed : Type 0 where
  pub output : List ℕ → ℕ → List ℕ
  pub limit : ℕ

-- TurboSHAKE128 with D = 1F
abbrev pub timed_turboshake : Timed
timed_turboshake = record { output = λ m n. turboshake128 m 0x1F n; limit = long_output }

-- KT with C empty, over the rate and the bytes of a chaining value; and at its two strengths
abbrev pub kt_at_with_none : ℕ → ℕ → Timed
kt_at_with_none rate chaining = record { output = λ m n. kt rate chaining m [] n; limit = long_output }

abbrev pub kt_with_none : Timed
kt_with_none = record { output = λ m n. kt128 m [] n; limit = long_output }

abbrev pub kt256_with_none : Timed
kt256_with_none = record { output = λ m n. kt256 m [] n; limit = long_output }

-- SHA3-256, whose digest has 32 bytes
abbrev pub sha3_256 : Timed
sha3_256 = record { output = sha3 32; limit = 32 }

-- SHAKE128, of a strength of 16 bytes
abbrev pub shake128 : Timed
shake128 = record { output = shake 16; limit = long_output }

-- cSHAKE128 with N = "N" and S = "S"
abbrev pub bench_name : List ℕ
bench_name = 0x4E ∷ []

abbrev pub bench_string : List ℕ
bench_string = 0x53 ∷ []

abbrev pub cshake_with_strings : Timed
cshake_with_strings = record { output = λ m n. cshake 168 m n bench_name bench_string; limit = long_output }

-- KMAC128 of 32 bytes with a key of 32 bytes and S = "S"
unfoldable pub bench_key : List ℕ
bench_key = replicate 32 0x40

abbrev pub timed_kmac : Timed
timed_kmac = record { output = λ m n. take n (kmac 168 bench_key m 32 bench_string); limit = 32 }

-- pieces of no bytes: a number of the benchmark's own
abbrev pub bad_step : ℕ
bad_step = 9

module _ (f : Timed) where
  -- the status of the squeeze of n bytes
  unfoldable pub read_status : ℕ → ℕ
  read_status n = cond (leb n f.limit) done output_too_long

  -- what the lent output holds after it
  unfoldable pub read_output : List ℕ → List ℕ → List ℕ
  read_output m out = lent (read_status (length out)) (f.output m (length out)) out

  -- the status for m bytes in pieces of `step`, and n bytes asked
  unfoldable pub pieces_status : ℕ → ℕ → ℕ → ℕ
  pieces_status step m n = cond (eqb step 0) bad_step (cond (leb m message_limit) (cond (leb n f.limit) done output_too_long) input_too_long)

  -- what the lent output holds after it
  unfoldable pub pieces_output : ℕ → List ℕ → List ℕ → List ℕ
  pieces_output step m out = lent (pieces_status step (length m) (length out)) (f.output m (length out)) out
