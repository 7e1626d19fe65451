-- chi and its inverse undo each other: on the five lanes of a plane bit by bit, where the 32 cases are computed.
-- Assumes nothing.
use mathlib.Core.Path.{◌≡◌, ap, ap₂, ◌∙◌}
use mathlib.Core.Bool.{Bool}
use mathlib.Core.List.{List}
use Prim.Native.Nat.{ℕ, ◌+◌, ◌-◌, ◌%◌, ◌^◌, ◌<◌}
use native.Mathlib.Nat.{lt_of_le_of_lt}
use native.Mathlib.Omega.{arith}
use lib.Bits.{bit_xor, bit_and, xor_lt, and_le_l}
use lib.Dec.{eqb, eqb→eq}
use Rattle.keccak.specs.State.{State, lane}
use Rattle.keccak.specs.Round.{complement, chi}
use Rattle.keccak.proofs.Words.{complement-lt}
use Rattle.keccak.proofs.Bits.{bit, bit_lt, bit-bit_xor, bit-bit_and, words_same, complement_bit}
use Rattle.keccak.proofs.Grid.{lane_same, grid-lane, grid_same, grid-state}
use Rattle.keccak.proofs.States.{lane-lt}
use Rattle.keccak.proofs.Steps.{chi_is}
use Rattle.inverse.specs.Inverse.{unchi_lane, unchi}
use Rattle.inverse.proofs.Digits.{passed_five}

-- what chi makes of a lane and the two after it
unfoldable chi_lane : ℕ → ℕ → ℕ → ℕ
chi_lane a0 a1 a2 = bit_xor a0 (bit_and (complement a1) a2)

-- ---- bits

chi-digit : ℕ → ℕ → ℕ → ℕ
chi-digit a0 a1 a2 = bit_xor a0 (bit_and (1 - a1) a2)

unchi-digit : ℕ → ℕ → ℕ → ℕ → ℕ → ℕ
unchi-digit b0 b1 b2 b3 b4 = bit_xor b0 (bit_and (1 - b1) (bit_xor b2 (bit_and (1 - b3) b4)))

done_undone : ℕ → ℕ → ℕ → ℕ → ℕ → Bool
done_undone a b c d e = eqb (unchi-digit (chi-digit a b c) (chi-digit b c d) (chi-digit c d e) (chi-digit d e a) (chi-digit e a b)) a

undone_done : ℕ → ℕ → ℕ → ℕ → ℕ → Bool
undone_done a b c d e = eqb (chi-digit (unchi-digit a b c d e) (unchi-digit b c d e a) (unchi-digit c d e a b)) a

digits_done : (a b c d e : ℕ) → a < 2 → b < 2 → c < 2 → d < 2 → e < 2
    → unchi-digit (chi-digit a b c) (chi-digit b c d) (chi-digit c d e) (chi-digit d e a) (chi-digit e a b) ≡ a
unfolding done_undone chi-digit unchi-digit
digits_done a b c d e ha hb hc hd he = eqb→eq _ a (passed_five done_undone tt a b c d e ha hb hc hd he)

digits-undone : (a b c d e : ℕ) → a < 2 → b < 2 → c < 2 → d < 2 → e < 2
    → chi-digit (unchi-digit a b c d e) (unchi-digit b c d e a) (unchi-digit c d e a b) ≡ a
unfolding undone_done chi-digit unchi-digit
digits-undone a b c d e ha hb hc hd he = eqb→eq _ a (passed_five undone_done tt a b c d e ha hb hc hd he)

-- ---- words

and-complement-lt : (u v : ℕ) → bit_and (complement u) v < 2 ^ 64
and-complement-lt u v = lt_of_le_of_lt (and_le_l (complement u) v) (complement-lt u)

chi_lane-lt : (a0 a1 a2 : ℕ) → a0 < 2 ^ 64 → chi_lane a0 a1 a2 < 2 ^ 64
unfolding chi_lane
chi_lane-lt a0 a1 a2 h = xor_lt 64 _ _ h (and-complement-lt a1 _)

unchi_lane-lt : (b0 b1 b2 b3 b4 : ℕ) → b0 < 2 ^ 64 → unchi_lane b0 b1 b2 b3 b4 < 2 ^ 64
unfolding unchi_lane
unchi_lane-lt b0 b1 b2 b3 b4 h = xor_lt 64 _ _ h (and-complement-lt b1 _)

chi_lane_bit : (a0 a1 a2 z : ℕ) → a1 < 2 ^ 64 → z < 64 → bit (chi_lane a0 a1 a2) z ≡ chi-digit (bit a0 z) (bit a1 z) (bit a2 z)
unfolding chi_lane chi-digit
chi_lane_bit a0 a1 a2 z h1 hz =
    bit-bit_xor a0 _ z ∙ ap (bit_xor (bit a0 z)) (bit-bit_and (complement a1) a2 z ∙ ap (λ (n : ℕ). bit_and n (bit a2 z)) (complement_bit a1 z h1 hz))

unchi_lane_bit : (b0 b1 b2 b3 b4 z : ℕ) → b1 < 2 ^ 64 → b3 < 2 ^ 64 → z < 64
    → bit (unchi_lane b0 b1 b2 b3 b4) z ≡ unchi-digit (bit b0 z) (bit b1 z) (bit b2 z) (bit b3 z) (bit b4 z)
unfolding unchi_lane unchi-digit chi_lane chi-digit
unchi_lane_bit b0 b1 b2 b3 b4 z h1 h3 hz =
    bit-bit_xor b0 _ z
    ∙ ap (bit_xor (bit b0 z)) (bit-bit_and (complement b1) (chi_lane b2 b3 b4) z ∙ ap₂ bit_and (complement_bit b1 z h1 hz) (chi_lane_bit b2 b3 b4 z h3 hz))

module _ (a b c d e : ℕ) (ha : a < 2 ^ 64) (hb : b < 2 ^ 64) (hc : c < 2 ^ 64) (hd : d < 2 ^ 64) (he : e < 2 ^ 64) where
  unchi_lane-chi_lane : unchi_lane (chi_lane a b c) (chi_lane b c d) (chi_lane c d e) (chi_lane d e a) (chi_lane e a b) ≡ a
  unchi_lane-chi_lane =
      words_same _ a (unchi_lane-lt _ _ _ _ _ (chi_lane-lt a b c ha)) ha
      (λ z hz.
      let e0 : bit (chi_lane a b c) z ≡ chi-digit (bit a z) (bit b z) (bit c z) = chi_lane_bit a b c z hb hz in
      let e1 : bit (chi_lane b c d) z ≡ chi-digit (bit b z) (bit c z) (bit d z) = chi_lane_bit b c d z hc hz in
      let e2 : bit (chi_lane c d e) z ≡ chi-digit (bit c z) (bit d z) (bit e z) = chi_lane_bit c d e z hd hz in
      let e3 : bit (chi_lane d e a) z ≡ chi-digit (bit d z) (bit e z) (bit a z) = chi_lane_bit d e a z he hz in
      let e4 : bit (chi_lane e a b) z ≡ chi-digit (bit e z) (bit a z) (bit b z) = chi_lane_bit e a b z ha hz in
      unchi_lane_bit (chi_lane a b c) (chi_lane b c d) (chi_lane c d e) (chi_lane d e a) (chi_lane e a b) z (chi_lane-lt b c d hb) (chi_lane-lt d e a hd) hz
      ∙ cc (e0, e1, e2, e3, e4)
      ∙ digits_done (bit a z) (bit b z) (bit c z) (bit d z) (bit e z) (bit_lt a z) (bit_lt b z) (bit_lt c z) (bit_lt d z) (bit_lt e z))

  chi_lane-unchi_lane : chi_lane (unchi_lane a b c d e) (unchi_lane b c d e a) (unchi_lane c d e a b) ≡ a
  chi_lane-unchi_lane =
      words_same _ a (chi_lane-lt _ _ _ (unchi_lane-lt a b c d e ha)) ha
      (λ z hz.
      let e0 : bit (unchi_lane a b c d e) z ≡ unchi-digit (bit a z) (bit b z) (bit c z) (bit d z) (bit e z) = unchi_lane_bit a b c d e z hb hd hz in
      let e1 : bit (unchi_lane b c d e a) z ≡ unchi-digit (bit b z) (bit c z) (bit d z) (bit e z) (bit a z) = unchi_lane_bit b c d e a z hc he hz in
      let e2 : bit (unchi_lane c d e a b) z ≡ unchi-digit (bit c z) (bit d z) (bit e z) (bit a z) (bit b z) = unchi_lane_bit c d e a b z hd ha hz in
      chi_lane_bit (unchi_lane a b c d e) (unchi_lane b c d e a) (unchi_lane c d e a b) z (unchi_lane-lt b c d e a hb) hz
      ∙ cc (e0, e1, e2)
      ∙ digits-undone (bit a z) (bit b z) (bit c z) (bit d z) (bit e z) (bit_lt a z) (bit_lt b z) (bit_lt c z) (bit_lt d z) (bit_lt e z))

-- ---- planes

-- lane u after chi, where v and w are the coordinates after u
chi_at : (a : List ℕ) (u v w y : ℕ) → (u + 1) % 5 ≡ v % 5 → (u + 2) % 5 ≡ w % 5 → lane (chi a) u y ≡ chi_lane (lane a u y) (lane a v y) (lane a w y)
unfolding chi_lane
chi_at a u v w y ev ew =
    let e0 : lane a (u % 5) (y % 5) ≡ lane a u y = lane_same a (u % 5) (y % 5) u y (omega arith) (omega arith) in
    let e1 : lane a (u % 5 + 1) (y % 5) ≡ lane a v y = lane_same a (u % 5 + 1) (y % 5) v y (omega arith) (omega arith) in
    let e2 : lane a (u % 5 + 2) (y % 5) ≡ lane a w y = lane_same a (u % 5 + 2) (y % 5) w y (omega arith) (omega arith) in
    ap (λ (b : List ℕ). lane b u y) (chi_is a) ∙ grid-lane _ u y ∙ ap₂ bit_xor e0 (ap₂ (λ (p q : ℕ). bit_and (complement p) q) e1 e2)

unchi_lane_same : {p0 p1 p2 p3 p4 q0 q1 q2 q3 q4 : ℕ} → p0 ≡ q0 → p1 ≡ q1 → p2 ≡ q2 → p3 ≡ q3 → p4 ≡ q4 → unchi_lane p0 p1 p2 p3 p4 ≡ unchi_lane q0 q1 q2 q3 q4
unchi_lane_same e0 e1 e2 e3 e4 = λ i. unchi_lane (e0 i) (e1 i) (e2 i) (e3 i) (e4 i)

chi_lane_same : {p0 p1 p2 q0 q1 q2 : ℕ} → p0 ≡ q0 → p1 ≡ q1 → p2 ≡ q2 → chi_lane p0 p1 p2 ≡ chi_lane q0 q1 q2
chi_lane_same e0 e1 e2 = λ i. chi_lane (e0 i) (e1 i) (e2 i)

unchi_at_lem : (a : List ℕ) (u v w s t y : ℕ) → (u + 1) % 5 ≡ v % 5 → (u + 2) % 5 ≡ w % 5 → (u + 3) % 5 ≡ s % 5 → (u + 4) % 5 ≡ t % 5
    → lane (unchi a) u y ≡ unchi_lane (lane a u y) (lane a v y) (lane a w y) (lane a s y) (lane a t y)
unfolding unchi
unchi_at_lem a u v w s t y ev ew es et =
    let e0 : lane a (u % 5) (y % 5) ≡ lane a u y = lane_same a (u % 5) (y % 5) u y (omega arith) (omega arith) in
    let e1 : lane a (u % 5 + 1) (y % 5) ≡ lane a v y = lane_same a (u % 5 + 1) (y % 5) v y (omega arith) (omega arith) in
    let e2 : lane a (u % 5 + 2) (y % 5) ≡ lane a w y = lane_same a (u % 5 + 2) (y % 5) w y (omega arith) (omega arith) in
    let e3 : lane a (u % 5 + 3) (y % 5) ≡ lane a s y = lane_same a (u % 5 + 3) (y % 5) s y (omega arith) (omega arith) in
    let e4 : lane a (u % 5 + 4) (y % 5) ≡ lane a t y = lane_same a (u % 5 + 4) (y % 5) t y (omega arith) (omega arith) in
    grid-lane _ u y ∙ unchi_lane_same e0 e1 e2 e3 e4

module _ (a : List ℕ) (s : State a) where
  pub unchi-state : State (unchi a)
  unfolding unchi
  unchi-state = grid-state _ (λ x y. unchi_lane-lt _ _ _ _ _ (lane-lt a s x y))

  pub unchi-chi : unchi (chi a) ≡ a
  unfolding unchi
  unchi-chi =
      grid_same _ a s.lanes
      (λ x y.
      unchi_lane_same
      (chi_at a x (x + 1) (x + 2) y (omega arith) (omega arith))
      (chi_at a (x + 1) (x + 2) (x + 3) y (omega arith) (omega arith))
      (chi_at a (x + 2) (x + 3) (x + 4) y (omega arith) (omega arith))
      (chi_at a (x + 3) (x + 4) x y (omega arith) (omega arith))
      (chi_at a (x + 4) x (x + 1) y (omega arith) (omega arith))
      ∙ unchi_lane-chi_lane (lane a x y) (lane a (x + 1) y) (lane a (x + 2) y) (lane a (x + 3) y) (lane a (x + 4) y)
      (lane-lt a s x y) (lane-lt a s (x + 1) y) (lane-lt a s (x + 2) y) (lane-lt a s (x + 3) y) (lane-lt a s (x + 4) y))

  pub chi-unchi : chi (unchi a) ≡ a
  unfolding chi_lane
  chi-unchi =
      chi_is (unchi a)
      ∙ grid_same _ a s.lanes
      (λ x y.
      chi_lane_same
      (unchi_at_lem a x (x + 1) (x + 2) (x + 3) (x + 4) y (omega arith) (omega arith) (omega arith) (omega arith))
      (unchi_at_lem a (x + 1) (x + 2) (x + 3) (x + 4) x y (omega arith) (omega arith) (omega arith) (omega arith))
      (unchi_at_lem a (x + 2) (x + 3) (x + 4) x (x + 1) y (omega arith) (omega arith) (omega arith) (omega arith))
      ∙ chi_lane-unchi_lane (lane a x y) (lane a (x + 1) y) (lane a (x + 2) y) (lane a (x + 3) y) (lane a (x + 4) y)
      (lane-lt a s x y) (lane-lt a s (x + 1) y) (lane-lt a s (x + 2) y) (lane-lt a s (x + 3) y) (lane-lt a s (x + 4) y))
