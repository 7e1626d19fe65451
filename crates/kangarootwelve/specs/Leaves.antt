-- What the contracts of the functions on four leaves say: chunks in a row, four sponges in one slice, and the chaining values of both.
-- Assumes nothing.
use Rattle.std.specs.Prelude.{◌≡◌, List, [], ◌++◌, ℕ, zero, suc, ◌*◌, ◌<◌, length, take, drop, replicate}
use Rattle.keccak.specs.Permutation.{permuted}
use Rattle.abreast.specs.Four.{state_at}
use Rattle.sponge.specs.Cut.{pieces}
use Rattle.sponge.specs.Published.{bytes_from}
use Rattle.sponge.specs.Model.{Sponge, pad, squeeze_bytes}
use Rattle.kangarootwelve.specs.Published.{chunk, intermediate_domain, chaining_values}

-- chunk k of chunks in a row
unfoldable pub chunk_at : ℕ → List ℕ → List ℕ
chunk_at k s = take chunk (drop (k * chunk) s)

-- from s, at position p, to t, at position q, each of the four sponges goes through its f
pub record Sponges (f : ℕ → Sponge → Sponge) (s : List ℕ) (p : ℕ) (t : List ℕ) (q : ℕ) : Type 0 where
  pub words : length t ≡ 100
  pub each : (k : ℕ) → k < 4 → record { value = state_at k t; position = q } ≡ f k (record { value = state_at k s; position = p })

-- the first n bytes of each of c states from state j on
abbrev pub states_bytes : ℕ → List ℕ → ℕ → ℕ → List ℕ
states_bytes n s zero j = []
states_bytes n s (suc c) j = bytes_from (state_at j s) 0 n ++ states_bytes n s c (suc j)

-- the chaining values, n bytes each, of c leaves from leaf j on, whose sponges stand in s, at position p
abbrev pub open_values : ℕ → ℕ → List ℕ → ℕ → ℕ → ℕ → List ℕ
open_values rate n s p zero j = []
open_values rate n s p (suc c) j = squeeze_bytes permuted rate n (pad permuted rate (record { value = state_at j s; position = p }) intermediate_domain) ++ open_values rate n s p c (suc j)

-- the chaining values, n bytes each, of the first c chunks
abbrev pub values_of : ℕ → ℕ → ℕ → List ℕ → List ℕ
values_of rate n c s = chaining_values rate n (pieces c chunk s)

-- a slice of four states that is zero
unfoldable pub cleared : List ℕ
cleared = replicate 100 0
