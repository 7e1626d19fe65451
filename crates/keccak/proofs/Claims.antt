-- The steps, the round and the rounds, bit by bit, are the standard's: each step on bits looks at the bits of the state alone, so that they compose.
-- Assumes nothing.
use mathlib.Core.Path.{◌≡◌, refl, sym, ap, ap₂, ◌∙◌, subst}
use mathlib.Core.Bool.{cond, ◌&&◌}
use mathlib.Core.List.{List}
use Prim.Native.Nat.{ℕ, zero, suc, ◌+◌, ◌-◌, ◌*◌, ◌/◌, ◌%◌, ◌<◌, ◌≤◌}
use native.Mathlib.Nat.{mod-lt}
use native.Mathlib.Omega.{arith}
use lib.Bits.{bit_xor}
use lib.Dec.{eqb, lit<}
use lib.ListN.{get_or, drop}
use lib.Seq.{drop-cons}
use Rattle.keccak.specs.State.{State, bytes_of}
use Rattle.keccak.specs.Round.{theta, rho, pi, chi, iota, round}
use Rattle.keccak.specs.Permutation.{rounds, round_constants, last_rounds}
use Rattle.keccak.specs.Rules.{walk}
use Rattle.keccak.specs.Bitwise.{StateArray, w, bits_of, string_of, array_of, Same, minus_mod, C, D, θ, ρ_turns, ρ, π, χ, RC, ι, rnd, rnds, keccak_p}
use Rattle.keccak.specs.Claims.{OnBits, Claims}
use Rattle.keccak.proofs.Constants.{constant_word}
use Rattle.keccak.proofs.RegisterBits.{rc_bits}
use Rattle.keccak.proofs.ConstantBits.{constant_bit}
use Rattle.keccak.proofs.States.{theta-state, rho-state, pi-state, chi-state, iota-state}
use Rattle.keccak.proofs.Rounds.{last_rounds_lem}
use Rattle.keccak.proofs.Bitwise.{string_bits, theta_bits, rho_bits, pi_bits, chi_bits, iota_bits}

-- ---- a step on bits takes one state array to one state array

mod-five : (n : ℕ) → n % 5 < 5
mod-five n = mod-lt n (lit< tt)

mod_width : (n : ℕ) → n % w < w
mod_width n = mod-lt n (lit< tt)

module _ (A B : StateArray) (h : Same A B) where
  C_same : (x z : ℕ) → x < 5 → z < w → C A x z ≡ C B x z
  unfolding C
  C_same x z hx hz = rw (h x 0 z hx (lit< tt) hz, h x 1 z hx (lit< tt) hz, h x 2 z hx (lit< tt) hz, h x 3 z hx (lit< tt) hz, h x 4 z hx (lit< tt) hz)

  θ_same : Same (θ A) (θ B)
  unfolding θ D
  θ_same x y z hx hy hz = ap₂ bit_xor (h x y z hx hy hz) (ap₂ bit_xor (C_same _ z (mod-five _) hz) (C_same _ _ (mod-five _) (mod_width _)))

  turns_same : (n : ℕ) → Same (ρ_turns n A) (ρ_turns n B)
  unfolding ρ_turns
  turns_same zero x y z hx hy hz = ap (λ (v : ℕ). cond (eqb x 0 && eqb y 0) v 0) (h x y z hx hy hz)
  turns_same (suc t) x y z hx hy hz =
      ap₂ (cond (eqb x (walk t).0 && eqb y (walk t).1)) (h x y (minus_mod z ((t + 1) * (t + 2) / 2) w) hx hy (mod_width _)) (turns_same t x y z hx hy hz)

  ρ_same : Same (ρ A) (ρ B)
  unfolding ρ
  ρ_same = turns_same 24

  π_same : Same (π A) (π B)
  unfolding π
  π_same x y z hx hy hz = h _ x z (mod-five _) hx hz

  χ_same : Same (χ A) (χ B)
  unfolding χ
  χ_same x y z hx hy hz =
      ap₂ bit_xor (h x y z hx hy hz) (ap₂ (λ (b c : ℕ). bit_xor b 1 * c) (h ((x + 1) % 5) y z (mod-five _) hy hz) (h ((x + 2) % 5) y z (mod-five _) hy hz))

  ι_same : (i : ℕ) → Same (ι A i) (ι B i)
  unfolding ι
  ι_same i x y z hx hy hz = ap (λ (v : ℕ). cond (eqb x 0 && eqb y 0) (bit_xor v (RC i z)) v) (h x y z hx hy hz)

-- ---- steps, one after the other

-- a is a state, and A is its state array
record ArrayOf (a : List ℕ) (A : StateArray) : Type 0 where
  state : State a
  bits : Same (bits_of a) A

module _ (f : List ℕ → List ℕ) (F : StateArray → StateArray) (on : OnBits f F) (same : (A B : StateArray) → Same A B → Same (F A) (F B)) where
  step : (a : List ℕ) (A : StateArray) → ArrayOf a A → ArrayOf (f a) (F A)
  step a A o = record {
    state = (on a o.state).0;
    bits = λ x y z hx hy hz. (on a o.state).1 x y z hx hy hz ∙ same (bits_of a) A o.bits x y z hx hy hz;
  }

theta_on : OnBits theta θ
theta_on a s = (theta-state a s, theta_bits a s)

rho_on : OnBits rho ρ
rho_on a s = (rho-state a s, rho_bits a s)

pi_on : OnBits pi π
pi_on a s = (pi-state a s, pi_bits a s)

chi_on : OnBits chi χ
chi_on a s = (chi-state a s, chi_bits a s)

module _ (i : ℕ) (h : i < 24) where
  iota_on : OnBits (iota (get_or round_constants i 0)) (λ A. ι A i)
  iota_on a s = (iota-state a s _ (constant_word i h), iota_bits a s i (get_or round_constants i 0) (λ z. constant_bit i z h))

  round_of : (a : List ℕ) (A : StateArray) → ArrayOf a A → ArrayOf (round (get_or round_constants i 0) a) (rnd A i)
  unfolding round rnd
  round_of a A o =
      step (iota (get_or round_constants i 0)) (λ B. ι B i) iota_on (λ B E e. ι_same B E e i) _ _
      (step chi χ chi_on χ_same _ _ (step pi π pi_on π_same _ _ (step rho ρ rho_on ρ_same _ _ (step theta θ theta_on θ_same a A o))))

-- the rounds from i on
rounds_of : (k i : ℕ) → i + k ≡ 24 → (a : List ℕ) (A : StateArray) → ArrayOf a A → ArrayOf (rounds (drop i round_constants) a) (rnds k i A)
unfolding rounds rnds
rounds_of zero i e a A o =
    let last : i ≡ 24 = omega arith in
    subst (λ (n : ℕ). ArrayOf (rounds (drop n round_constants) a) A) (sym last) o
rounds_of (suc k) i e a A o =
    let h : i < 24 = omega arith in
    let n : suc i + k ≡ 24 = omega arith in
    subst (λ (cs : List ℕ). ArrayOf (rounds cs a) (rnds (suc k) i A)) (sym (drop-cons round_constants i 0 h))
    (rounds_of k (suc i) n (round (get_or round_constants i 0) a) (rnd A i) (round_of i h a A o))

-- ---- the claims

own : (a : List ℕ) → State a → ArrayOf a (bits_of a)
own a s = record { state = s; bits = λ x y z hx hy hz. refl }

last_rounds_of : (n : ℕ) → n ≤ 24 → (a : List ℕ) (A : StateArray) → ArrayOf a A → ArrayOf (last_rounds n a) (keccak_p n A)
unfolding keccak_p
last_rounds_of n h a A o =
    let e : 24 - n + n ≡ 24 = omega arith in
    subst (λ (b : List ℕ). ArrayOf b (rnds n (24 - n) A)) (last_rounds_lem n a h) (rounds_of n (24 - n) e a A o)

parts : {a : List ℕ} {A : StateArray} → ArrayOf a A → State a × Same (bits_of a) A
parts o = (o.state, o.bits)

string-rounds : (n : ℕ) → n ≤ 24 → (a : List ℕ) → State a → Same (array_of (string_of (bytes_of (last_rounds n a)))) (keccak_p n (array_of (string_of (bytes_of a))))
string-rounds n h a s x y z hx hy hz =
    sym (string_bits (last_rounds n a) x y z hx hy hz) ∙ (last_rounds_of n h a (array_of (string_of (bytes_of a))) (record { state = s; bits = string_bits a })).bits x y z hx hy hz

pub claims : Claims
claims = record {
  string_bits = string_bits;
  theta_bits = theta_on;
  rho_bits = rho_on;
  pi_bits = pi_on;
  chi_bits = chi_on;
  rc_bits = rc_bits;
  iota_bits = iota_on;
  round_bits = λ i h a s. parts (round_of i h a (bits_of a) (own a s));
  rounds_bits = λ n h a s. parts (last_rounds_of n h a (bits_of a) (own a s));
  string-rounds = string-rounds;
}
