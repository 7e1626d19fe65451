-- Two open runs of TurboSHAKE128 with different totals that absorb the byte 01 and end with the same lanes: a fresh one, and one after a byte whose first
-- lane is 257.
-- Assumes nothing.
use mathlib.Core.Path.{◌≡◌, refl, sym, ap, ◌∙◌}
use mathlib.Core.List.{List, [], ◌∷◌}
use Prim.Native.Nat.{ℕ, zero, suc, ◌+◌, ◌^◌, ◌≤◌, ◌<◌, zero-le}
use native.Mathlib.Omega.{arith}
use lib.ListN.{get_or, replicate}
use lib.Pow.{pow_pos}
use Rattle.keccak.specs.State.{State}
use Rattle.sponge.specs.Waiting.{position_after}
use Rattle.sponge.specs.Count.{open_count}
use Rattle.sponge.specs.Transcript.{Call.absorb}
use Rattle.sponge.proofs.Xor.{xor_byte_is}
use Rattle.sponge.proofs.Valid.{fits-valid}
use Rattle.hasher.specs.Function.{message_limit}
use Rattle.hasher.specs.Model.{answer}
use Rattle.hasher.specs.declared.Run.{Run}
use Rattle.hasher.proofs.Absorbed.{absorb-taken, lanes_left}
use Rattle.turboshake.specs.Published.{turboshake_rounds}
use Rattle.turboshake.specs.Transcript.{function}
use Rattle.injective.specs.Claims.{TotalsNeeded}

zero_word : (n k : ℕ) → get_or (replicate n 0) k 0 < 2 ^ 64
zero_word zero k = pow_pos 64
zero_word (suc n) zero = pow_pos 64
zero_word (suc n) (suc k) = zero_word n k

-- n bytes absorbed, all in the first block; the other lanes are 0
abbrev run : ℕ → ℕ → Run
run lane n = record { lanes = lane ∷ replicate 24 0; position = n; phase = 0; absorbed = n; squeezed = 0; permutations = 0 }

run-state : (lane n : ℕ) → lane < 2 ^ 64 → State (run lane n).lanes
run-state lane n h = record { lanes = refl; words = word }
  where
    word : (k : ℕ) → get_or (lane ∷ replicate 24 0) k 0 < 2 ^ 64
    word zero = h
    word (suc k) = zero_word 24 k

run_done : (lane n : ℕ) → position_after 168 n ≡ n → open_count 168 n ≡ 0 → n + 1 ≤ message_limit → (answer (function 168) (run lane n) (absorb (1 ∷ []))).status ≡ 0
run_done lane n e f l = absorb-taken (function 168) (run lane n) (1 ∷ []) (fits-valid turboshake_rounds 168 0 refl zero-le (omega arith) (omega arith)) refl refl (sym e) (sym f) l

first_done : (answer (function 168) (run 0 0) (absorb (1 ∷ []))).status ≡ 0
first_done = run_done 0 0 refl refl (omega arith)

second_done : (answer (function 168) (run 257 1) (absorb (1 ∷ []))).status ≡ 0
second_done = run_done 257 1 refl refl (omega arith)

-- both end with 1 in the first lane
end_alike : (answer (function 168) (run 0 0) (absorb (1 ∷ []))).run.lanes ≡ (answer (function 168) (run 257 1) (absorb (1 ∷ []))).run.lanes
end_alike =
    lanes_left (function 168) (run 0 0) (1 ∷ []) first_done ∙ xor_byte_is (0 ∷ replicate 24 0) 0 1
    ∙ sym (lanes_left (function 168) (run 257 1) (1 ∷ []) second_done ∙ xor_byte_is (257 ∷ replicate 24 0) 1 1)

pub totals_needed : TotalsNeeded (function 168)
totals_needed = record {
  first = run 0 0;
  second = run 257 1;
  piece = 1 ∷ [];
  first_state = run-state 0 0 (omega arith);
  second-state = run-state 257 1 (omega arith);
  piece_bytes = (omega arith, tt);
  first_done = first_done;
  second_done = second_done;
  end_alike = end_alike;
  began_apart = λ e. let z : ◌≡◌ {A = ℕ} 0 257 = ap (λ (l : List ℕ). get_or l 0 0) e in omega arith;
}
