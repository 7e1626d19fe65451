-- What a caller of `permute` knows of its result: 25 lanes, each a word of 64 bits; and that each step, the round and the rounds take states to states.
-- Assumes nothing.
use mathlib.Core.Path.{◌≡◌, ◌∙◌}
use mathlib.Core.Bool.{Bool, true, false, cond}
use mathlib.Core.List.{List, [], ◌∷◌}
use Prim.Native.Nat.{ℕ, zero, suc, ◌+◌, ◌-◌, ◌*◌, ◌%◌, ◌^◌, ◌<◌, suc-le-suc}
use native.Mathlib.Nat.{zero-lt-suc}
use native.Mathlib.Omega.{arith}
use mir.Syntax.{w64}
use mir.Val.{Val, Fits}
use denote.Shadow.{shadow}
use denote.Plain.{UInt}
use denote.Array.{in_array}
use borrow.Author.Rules.{rules, elem_Fits}
use borrow.Fn.Kinds.{GoodK}
use borrow.Kind.Array.{p_arr, e_int, e_int_laws}
use lib.Bits.{bit_xor, bit_and, xor_lt, and_lt}
use lib.Dec.{leb}
use lib.ListN.{length, get_or, set, drop, length-set, length-drop}
use lib.Seq.{get_or-drop}
use Rattle.keccak.specs.State.{State, lane}
use Rattle.keccak.specs.Round.{complement, parity, theta, rho, pi, chi, iota, round}
use Rattle.keccak.specs.Permutation.{rounds, round_constants, last_rounds}
use Rattle.keccak.proofs.Grid.{grid-length, grid-state}
use Rattle.keccak.proofs.Words.{rotl-lt, complement-lt}
use Rattle.keccak.proofs.Constants.{constant_word}

-- ---- an array of 25 words is a state, by its type

pub array_state : (a : List ℕ) → GoodK {n = 0} tt (p_arr (e_int w64) (e_int_laws w64) 25) a → State a
array_state a good =
    let word : (i : ℕ) → Fits w64 (get_or a i 0) = λ i. search (rules, good) in
    record { lanes = good.1.0.1; words = λ i. (word i).fits }

-- and so are 25 words in a field of a struct
pub field_state : (a : List ℕ) (vs : List Val) → shadow (in_array ℕ (UInt w64).own_val 25 a vs) → State a
field_state a vs good = record { lanes = good.1.0.1; words = λ i. (elem_Fits w64 w64 a good.0 i good.1.1 tt).fits }

-- ---- 25 lanes stay 25, whatever they hold

chi-length : (a : List ℕ) → length (chi a) ≡ 25
unfolding chi
chi-length a = grid-length (λ x y. bit_xor (lane a x y) (bit_and (complement (lane a (x + 1) y)) (lane a (x + 2) y)))

iota-length : (rc : ℕ) (a : List ℕ) → length (iota rc a) ≡ length a
unfolding iota
iota-length rc a = length-set a 0 (bit_xor (get_or a 0 0) rc)

round-length : (rc : ℕ) (a : List ℕ) → length (round rc a) ≡ 25
unfolding round
round-length rc a = iota-length rc (chi (pi (rho (theta a)))) ∙ chi-length (pi (rho (theta a)))

rounds-length : (rcs a : List ℕ) → length a ≡ 25 → length (rounds rcs a) ≡ 25
unfolding rounds
rounds-length [] a h = h
rounds-length (rc ∷ rcs) a h = rounds-length rcs (round rc a) (round-length rc a)

pub last_rounds-length : (n : ℕ) (a : List ℕ) → length a ≡ 25 → length (last_rounds n a) ≡ 25
unfolding last_rounds
last_rounds-length n a h = by (leb n 24)
  where
    by : (t : Bool) → length (cond t (rounds (drop (24 - n) round_constants) a) a) ≡ 25
    by true = rounds-length (drop (24 - n) round_constants) a h
    by false = h

-- ---- a state stays a state

pub set_words : (l : List ℕ) (i v : ℕ) → ((k : ℕ) → get_or l k 0 < 2 ^ 64) → v < 2 ^ 64 → (k : ℕ) → get_or (set l i v) k 0 < 2 ^ 64
set_words [] i v h hv k = h k
set_words (x ∷ l) zero v h hv zero = hv
set_words (x ∷ l) zero v h hv (suc k) = h (suc k)
set_words (x ∷ l) (suc i) v h hv zero = h 0
set_words (x ∷ l) (suc i) v h hv (suc k) = set_words l i v (λ j. h (suc j)) hv k

module _ (a : List ℕ) (s : State a) where
  pub lane-lt : (x y : ℕ) → lane a x y < 2 ^ 64
  lane-lt x y = s.words (x % 5 + 5 * (y % 5))

  pub parity-lt : (x : ℕ) → parity a x < 2 ^ 64
  unfolding parity
  parity-lt x = xor_lt 64 _ _ (xor_lt 64 _ _ (xor_lt 64 _ _ (xor_lt 64 _ _ (lane-lt x 0) (lane-lt x 1)) (lane-lt x 2)) (lane-lt x 3)) (lane-lt x 4)

  pub theta-state : State (theta a)
  unfolding theta
  theta-state = grid-state _ (λ x y. xor_lt 64 _ _ (lane-lt x y) (xor_lt 64 _ _ (parity-lt (x + 4)) (rotl-lt _ 1 (parity-lt (x + 1)))))

  pub rho-state : State (rho a)
  unfolding rho
  rho-state = grid-state _ (λ x y. rotl-lt _ _ (lane-lt x y))

  pub pi-state : State (pi a)
  unfolding pi
  pi-state = grid-state _ (λ x y. lane-lt (x + 3 * y) x)

  pub chi-state : State (chi a)
  unfolding chi
  chi-state = grid-state _ (λ x y. xor_lt 64 _ _ (lane-lt x y) (and_lt 64 _ _ (complement-lt _) (lane-lt (x + 2) y)))

  iota-words : (rc : ℕ) → rc < 2 ^ 64 → (k : ℕ) → get_or (iota rc a) k 0 < 2 ^ 64
  unfolding iota
  iota-words rc h k = set_words a 0 _ s.words (xor_lt 64 _ _ (s.words 0) h) k

  pub iota-state : (rc : ℕ) → rc < 2 ^ 64 → State (iota rc a)
  unfolding iota
  iota-state rc h = record { lanes = iota-length rc a ∙ s.lanes; words = iota-words rc h }

pub round-state : (rc : ℕ) (a : List ℕ) → rc < 2 ^ 64 → State a → State (round rc a)
unfolding round
round-state rc a h s = iota-state _ (chi-state _ (pi-state _ (rho-state _ (theta-state a s)))) rc h

rounds-state : (rcs a : List ℕ) → ((k : ℕ) → k < length rcs → get_or rcs k 0 < 2 ^ 64) → State a → State (rounds rcs a)
unfolding rounds
rounds-state [] a h s = s
rounds-state (rc ∷ rcs) a h s = rounds-state rcs (round rc a) (λ k g. h (suc k) (suc-le-suc g)) (round-state rc a (h 0 (zero-lt-suc (length rcs))) s)

pub rest_words : (i : ℕ) (k : ℕ) → k < length (drop i round_constants) → get_or (drop i round_constants) k 0 < 2 ^ 64
rest_words i k h = rw get_or-drop (constant_word (i + k) (omega (arith, length-drop i round_constants)))

pub last_rounds-state : (n : ℕ) (a : List ℕ) → State a → State (last_rounds n a)
unfolding last_rounds
last_rounds-state n a s = by (leb n 24)
  where
    by : (t : Bool) → State (cond t (rounds (drop (24 - n) round_constants) a) a)
    by true = rounds-state (drop (24 - n) round_constants) a (rest_words (24 - n)) s
    by false = s
