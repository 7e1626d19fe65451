-- The bits of the lanes are those of the state's bytes, and each lane-wise step, bit by bit, is the standard's step.
-- Assumes nothing.
use mathlib.Core.Path.{◌≡◌, refl, sym, ap, ap₂, ◌∙◌, subst}
use mathlib.Core.Bool.{Bool, true, false, cond, ◌&&◌, ◌||◌}
use mathlib.Core.List.{List}
use Prim.Native.Nat.{ℕ, zero, suc, ◌+◌, ◌-◌, ◌*◌, ◌/◌, ◌%◌, ◌^◌, ◌<◌, ◌≤◌}
use native.Mathlib.Nat.{le_of_lt, mod-eq_of_lt, mod-mod, zero-add, zero-mul}
use native.Mathlib.Omega.{arith}
use lib.Bits.{bit_xor, bit_and}
use lib.Dec.{T, eqb, eqb→eq, eqb-suc-zero}
use lib.ListN.{get_or}
use lib.Seq.{get_or-set_same, get_or-set_other}
use Rattle.keccak.specs.State.{State, lane, from, grid, byte_at, bytes_of}
use Rattle.keccak.specs.Round.{rotl, complement, parity, theta, offsets, rho, pi, chi, iota}
use Rattle.keccak.specs.Rules.{walk, step_offset}
use Rattle.keccak.specs.Bitwise.{w, bits_of, string_of, array_of, Same, minus_mod, C, D, θ, ρ_turns, ρ, π, χ, RC, ι}
use Rattle.keccak.proofs.Bits.{bit, bit_lt, bit_low, bit_high, bit-bit_xor, bit-bit_and, rotl-from, complement_bit}
use Rattle.keccak.proofs.Grid.{from_at, grid-lane, lane_same}
use Rattle.keccak.proofs.Offsets.{offsets_rule}
use Rattle.keccak.proofs.States.{lane-lt, parity-lt}
use Rattle.keccak.proofs.Steps.{parity_same}
use Rattle.keccak.proofs.Table.{at}

-- ---- lanes and strings

pub string_bits : (a : List ℕ) → Same (bits_of a) (array_of (string_of (bytes_of a)))
unfolding array_of string_of bytes_of byte_at
string_bits a x y z hx hy hz =
    let k : ℕ = w * (5 * y + x) + z in
    let i : ℕ = k / 8 in
    let h : i < 200 = omega arith in
    let low : k % 8 < 8 = omega arith in
    let el : x % 5 + 5 * (y % 5) ≡ i / 8 = omega (arith, mod-eq_of_lt hx, mod-eq_of_lt hy) in
    let eb : z ≡ 8 * (i % 8) + k % 8 = omega arith in
    ap₂ (λ (n j : ℕ). bit (get_or a n 0) j) el eb ∙ bit_high (get_or a (i / 8) 0) (8 * (i % 8)) (k % 8)
    ∙ sym (bit_low (get_or a (i / 8) 0 / 2 ^ (8 * (i % 8))) 8 (k % 8) low)
    ∙ ap (λ (b : ℕ). bit b (k % 8)) (sym (from_at (byte_at a) 0 200 i h ∙ ap (byte_at a) (zero-add i)))

-- ---- lanes of a grid, and words

-- the bits of a lane of a grid
grid_bit : (f : ℕ → ℕ → ℕ) (x y z : ℕ) → x < 5 → y < 5 → bits_of (grid f) x y z ≡ bit (f x y) z
grid_bit f x y z hx hy = ap (λ (v : ℕ). bit v z) (grid-lane f x y ∙ ap₂ f (mod-eq_of_lt hx) (mod-eq_of_lt hy))

-- the coordinate x of a lane counts modulo 5
reduced_bit : (a : List ℕ) (x y z : ℕ) → bits_of a x y z ≡ bits_of a (x % 5) y z
reduced_bit a x y z = ap (λ (v : ℕ). bit v z) (lane_same a x y (x % 5) y (sym (mod-mod x 5)) refl)

-- a word rotated by k modulo 64: bit z was bit z - k modulo 64
rotl_minus : (x n k z : ℕ) → x < 2 ^ 64 → k % 64 ≡ n → z < 64 → bit (rotl x n) z ≡ bit x (minus_mod z k 64)
rotl_minus x n k z hx e hz =
    let hn : n < 64 = omega arith in
    let i : (64 - n + z) % 64 ≡ minus_mod z k 64 = omega arith in
    rotl-from x n z hx hn hz ∙ ap (bit x) i

-- ---- theta

parity_bit : (a : List ℕ) (x z : ℕ) → bit (parity a x) z ≡ C (bits_of a) x z
unfolding parity C
parity_bit a x z = simp bit-bit_xor

-- the number of a column counts modulo 5
column_bit : (a : List ℕ) (x u z : ℕ) → x % 5 ≡ u % 5 → bit (parity a x) z ≡ C (bits_of a) u z
column_bit a x u z e = ap (λ (v : ℕ). bit v z) (parity_same a x u e) ∙ parity_bit a u z

module _ (a : List ℕ) (s : State a) where
  pub theta_bits : Same (bits_of (theta a)) (θ (bits_of a))
  unfolding theta θ D
  theta_bits x y z hx hy hz =
      let before : (x + 4) % 5 ≡ minus_mod x 1 5 % 5 = omega arith in
      grid_bit (λ x y. bit_xor (lane a x y) (bit_xor (parity a (x + 4)) (rotl (parity a (x + 1)) 1))) x y z hx hy
      ∙ bit-bit_xor (lane a x y) _ z
      ∙ ap (bit_xor (bit (lane a x y) z))
      (bit-bit_xor (parity a (x + 4)) _ z
      ∙ ap₂ bit_xor (column_bit a (x + 4) (minus_mod x 1 5) z before)
      (rotl_minus (parity a (x + 1)) 1 1 z (parity-lt a s (x + 1)) refl hz ∙ column_bit a (x + 1) ((x + 1) % 5) (minus_mod z 1 w) (sym (mod-mod (x + 1) 5))))

-- ---- rho

-- step 1 or a turn t < n sets the bits of lane (x, y)
reached : ℕ → ℕ → ℕ → Bool
reached zero x y = (eqb x 0 && eqb y 0) || false
reached (suc t) x y = (eqb x (walk t).0 && eqb y (walk t).1) || reached t x y

lane_reached : ℕ → ℕ → Bool
lane_reached k n = reached 24 (k % 5) (k / 5)

-- each of the 25 lanes is (0, 0) or a lane of the walk
all_reached : (x y : ℕ) → x < 5 → y < 5 → T (reached 24 x y)
unfolding lane_reached reached walk from
all_reached x y hx hy =
    let k : ℕ = x + 5 * y in
    let h : k < 25 = omega arith in
    let ex : k % 5 ≡ x = omega arith in
    let ey : k / 5 ≡ y = omega arith in
    subst (λ (u : ℕ). T (reached 24 u y)) ex (subst (λ (v : ℕ). T (reached 24 (k % 5) v)) ey (at lane_reached (from 0 25 (λ i. i)) tt k h))

halves : (b c : Bool) → T (b && c) → T b × T c
halves true c t = (tt, t)
halves false c t = absurd t

-- n is what a turn sets, if the turn is at the lane, and else what is there already
chosen : (n p q : ℕ) (b c : Bool) → (T b → n ≡ p) → (T c → n ≡ q) → T (b || c) → n ≡ cond b p q
chosen n p q true c f g t = f tt
chosen n p q false c f g t = g t

module _ (a : List ℕ) (s : State a) (x y z : ℕ) (hz : z < w) where
  -- bit z of lane (x, y), rotated by its offset
  rotated : ℕ
  rotated = bit (rotl (lane a x y) (lane offsets x y)) z

  -- where (x, y) is a lane whose offset is k modulo 64
  moved : (u v k : ℕ) → lane offsets u v ≡ k % 64 → T (eqb x u && eqb y v) → rotated ≡ bits_of a x y (minus_mod z k w)
  unfolding rotated
  moved u v k e t =
      let (tx, ty) = halves (eqb x u) (eqb y v) t in
      rotl_minus (lane a x y) (lane offsets x y) k z (lane-lt a s x y) (sym (ap₂ (λ (i j : ℕ). lane offsets i j) (eqb→eq x u tx) (eqb→eq y v ty) ∙ e)) hz

  ρ_turns_bit : (m : ℕ) → m ≤ 24 → T (reached m x y) → rotated ≡ ρ_turns m (bits_of a) x y z
  unfolding ρ_turns reached step_offset
  ρ_turns_bit zero h r =
      let i : minus_mod z 0 w ≡ z = omega arith in
      chosen rotated (bits_of a x y z) 0 (eqb x 0 && eqb y 0) false (λ t. moved 0 0 0 refl t ∙ ap (bits_of a x y) i) absurd r
  ρ_turns_bit (suc t) h r =
      chosen rotated (bits_of a x y (minus_mod z ((t + 1) * (t + 2) / 2) w)) (ρ_turns t (bits_of a) x y z) (eqb x (walk t).0 && eqb y (walk t).1) (reached t x y)
      (moved (walk t).0 (walk t).1 ((t + 1) * (t + 2) / 2) (offsets_rule t h)) (ρ_turns_bit t (le_of_lt h)) r

module _ (a : List ℕ) (s : State a) where
  pub rho_bits : Same (bits_of (rho a)) (ρ (bits_of a))
  unfolding rho ρ rotated
  rho_bits x y z hx hy hz =
      grid_bit (λ x y. rotl (lane a x y) (lane offsets x y)) x y z hx hy ∙ ρ_turns_bit a s x y z hz 24 (omega arith) (all_reached x y hx hy)

  -- ---- pi

  pub pi_bits : Same (bits_of (pi a)) (π (bits_of a))
  unfolding pi π
  pi_bits x y z hx hy hz = grid_bit (λ x y. lane a (x + 3 * y) x) x y z hx hy ∙ reduced_bit a (x + 3 * y) x z

-- ---- chi

-- on bits, AND is the product, and inversion adds 1
and-mul : (b c : ℕ) → b < 2 → c < 2 → bit_and b c ≡ b * c
and-mul zero c hb hc = sym (zero-mul c)
and-mul (suc zero) zero hb hc = refl
and-mul (suc zero) (suc zero) hb hc = refl
and-mul (suc zero) (suc (suc c)) hb hc = absurd (omega arith)
and-mul (suc (suc b)) c hb hc = absurd (omega arith)

inverted : (b : ℕ) → b < 2 → 1 - b ≡ bit_xor b 1
inverted zero h = refl
inverted (suc zero) h = refl
inverted (suc (suc b)) h = absurd (omega arith)

module _ (a : List ℕ) (s : State a) where
  pub chi_bits : Same (bits_of (chi a)) (χ (bits_of a))
  unfolding chi χ
  chi_bits x y z hx hy hz =
      let u : ℕ = lane a (x + 1) y in
      let v : ℕ = lane a (x + 2) y in
      grid_bit (λ x y. bit_xor (lane a x y) (bit_and (complement (lane a (x + 1) y)) (lane a (x + 2) y))) x y z hx hy
      ∙ bit-bit_xor (lane a x y) _ z
      ∙ ap (bit_xor (bit (lane a x y) z))
      (bit-bit_and (complement u) v z ∙ and-mul (bit (complement u) z) (bit v z) (bit_lt (complement u) z) (bit_lt v z)
      ∙ ap₂ (λ (b c : ℕ). b * c)
      (complement_bit u z (lane-lt a s (x + 1) y) hz ∙ inverted (bit u z) (bit_lt u z) ∙ ap (λ (b : ℕ). bit_xor b 1) (reduced_bit a (x + 1) y z))
      (reduced_bit a (x + 2) y z))

  -- ---- iota, for a constant whose bits are RC of round i

  pub iota_bits : (i c : ℕ) → ((z : ℕ) → bit c z ≡ RC i z) → Same (bits_of (iota c a)) (ι (bits_of a) i)
  unfolding iota ι
  iota_bits i c e zero zero z hx hy hz =
      ap (λ (v : ℕ). bit v z) (get_or-set_same a 0 (bit_xor (get_or a 0 0) c) 0 (omega (arith, s.lanes)))
      ∙ bit-bit_xor (get_or a 0 0) c z ∙ ap (bit_xor (bit (get_or a 0 0) z)) (e z)
  iota_bits i c e zero (suc y) z hx hy hz =
      rw eqb-suc-zero
      (ap (λ (v : ℕ). bit v z) (get_or-set_other a 0 (0 + 5 * (suc y % 5)) (bit_xor (get_or a 0 0) c) 0 (λ q. omega (arith, mod-eq_of_lt hy))))
  iota_bits i c e (suc x) y z hx hy hz =
      rw eqb-suc-zero
      (ap (λ (v : ℕ). bit v z) (get_or-set_other a 0 (suc x % 5 + 5 * (y % 5)) (bit_xor (get_or a 0 0) c) 0 (λ q. omega arith)))
