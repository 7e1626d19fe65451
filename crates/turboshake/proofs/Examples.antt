-- The worked examples of specs/Examples.antt.
-- Assumes nothing.
use mathlib.Core.Path.{◌≡◌, ap, ◌∙◌}
use mathlib.Core.List.{List}
use Prim.Native.Nat.{ℕ, ◌+◌, ◌≤◌}
use native.Mathlib.Omega.{arith}
use lib.ListN.{length}
use Rattle.sponge.specs.Cut.{ceil}
use Rattle.sponge.specs.Count.{read_count}
use Rattle.hasher.specs.Claims.{Meets}
use Rattle.hasher.specs.Function.{message_limit, long_output}
use Rattle.hasher.proofs.Counts.{count_open, count_closed, count_read}
use Rattle.turboshake.specs.Transcript.{domain_status, function}
use Rattle.turboshake.specs.Examples.{when_open, when_closed, when_read, Examples}

module _ (E : Meets (function 168)) where
  opened : (m : List ℕ) (n : ℕ) → length m ≡ n → n ≤ message_limit → when_open m ≡ read_count 168 n
  opened m n e l =
      let fits : length m ≤ message_limit = omega arith in
      count_open (function 168) E m fits ∙ ap (read_count 168) e

  closed : (m : List ℕ) (d n : ℕ) → length m ≡ n → n ≤ message_limit → domain_status d ≡ 0 → when_closed m d ≡ ceil 168 (n + 1) + read_count 168 0
  closed m d n e l t =
      let fits : length m ≤ message_limit = omega arith in
      count_closed (function 168) E m fits d t ∙ ap (λ (j : ℕ). ceil 168 (j + 1) + read_count 168 0) e

  read : (m : List ℕ) (d n k : ℕ) → length m ≡ n → n ≤ message_limit → domain_status d ≡ 0 → k ≤ long_output → when_read m d k ≡ ceil 168 (n + 1) + read_count 168 k
  read m d n k e l t h =
      let fits : length m ≤ message_limit = omega arith in
      count_read (function 168) E m fits d t k h ∙ ap (λ (j : ℕ). ceil 168 (j + 1) + read_count 168 k) e

  pub examples : Examples
  examples = record {
    open_168 = λ m e. opened m 168 e (omega arith);
    open_169 = λ m e. opened m 169 e (omega arith);
    closed_167 = λ m d e t. closed m d 167 e (omega arith) t;
    closed_168 = λ m d e t. closed m d 168 e (omega arith) t;
    read_0 = λ m d e t. read m d 168 0 e (omega arith) t (omega arith);
    read_1 = λ m d e t. read m d 168 1 e (omega arith) t (omega arith);
    read_168 = λ m d e t. read m d 168 168 e (omega arith) t (omega arith);
    read_169 = λ m d e t. read m d 168 169 e (omega arith) t (omega arith);
  }
