-- What is claimed of the two functions' runs: all that `hasher` claims of a function, that the output of which it speaks is the published one, and
-- worked examples of the permutations.
-- Assumes nothing.
use Rattle.std.specs.Prelude.{◌≡◌, List, ℕ}
use Rattle.hasher.specs.Function.{output}
use Rattle.hasher.specs.Claims as hasher
use Rattle.turboshake.specs.Published.{turboshake}
use Rattle.turboshake.specs.Transcript.{function}
use Rattle.turboshake.specs.Examples.{Examples}

-- at a rate
pub record At (rate : ℕ) : Type 0 where
  pub runs : hasher.Claims (function rate)
  pub published : (m : List ℕ) (d n : ℕ) → output (function rate) m d n ≡ turboshake rate m d n

pub record Claims : Type 0 where
  pub turboshake128 : At 168
  pub turboshake256 : At 136
  pub examples : Examples
