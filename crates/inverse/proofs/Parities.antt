-- Rows of five words: `theta_parities` of two distances commute, one done twice is that of twice the distance, and those of 64 and 128 undo each other.
-- So `untheta_parities` and `theta_parities 1`, which is what theta does to the parities, undo each other.
-- Assumes nothing.
use mathlib.Core.Path.{◌≡◌, refl, sym, ap, ap₂, ◌∙◌, subst}
use mathlib.Core.List.{List}
use Prim.Native.Nat.{ℕ, ◌+◌, ◌*◌, ◌/◌, ◌%◌, ◌^◌, ◌<◌}
use native.Mathlib.Nat.{mod-lt}
use native.Mathlib.Omega.{arith}
use lib.Bits.{bit_xor, xor_lt}
use lib.Dec.{lit<}
use lib.ListN.{length, get_or}
use lib.Seq.{ext_get_or}
use Rattle.keccak.specs.State.{from}
use Rattle.keccak.specs.Round.{rotl}
use Rattle.keccak.proofs.Words.{rotl-lt}
use Rattle.keccak.proofs.Steps.{rotl-zero}
use Rattle.keccak.proofs.Grid.{from-length, from_at, five_apart}
use Rattle.inverse.specs.Inverse.{column, theta_parities, untheta_parities}
use Rattle.inverse.proofs.Reordered.{nine, xor_ninefold, xor_pairs, xor_cancelled}
use Rattle.inverse.proofs.Rotations.{rotl-xor, rotl-rotl}

-- ---- rows

-- each word of the row is one of 64 bits
abbrev pub Row : List ℕ → Type 0
Row p = (x : ℕ) → column p x < 2 ^ 64

pub column_same : (p : List ℕ) (x u : ℕ) → x % 5 ≡ u % 5 → column p x ≡ column p u
column_same p x u e = ap (λ (i : ℕ). get_or p i 0) e

pub row_at : (f : ℕ → ℕ) (x : ℕ) → column (from 0 5 f) x ≡ f (x % 5)
row_at f x = let e : 0 + x % 5 ≡ x % 5 = omega arith in from_at f 0 5 (x % 5) (mod-lt x (lit< tt)) ∙ ap f e

pub rows_same : (p q : List ℕ) → length p ≡ 5 → length q ≡ 5 → ((x : ℕ) → column p x ≡ column q x) → p ≡ q
rows_same p q ep eq h =
    ext_get_or 0 p q (ep ∙ sym eq)
    λ k g.
    let g' : k < 5 = subst (λ (n : ℕ). k < n) ep g in
    let e : k ≡ k % 5 = omega arith in
    ap (λ (i : ℕ). get_or p i 0) e ∙ h k ∙ sym (ap (λ (i : ℕ). get_or q i 0) e)

pub theta_parities-length : (t : ℕ) (p : List ℕ) → length (theta_parities t p) ≡ 5
unfolding theta_parities
theta_parities-length t p = from-length _ 0 5

pub theta_parities_at : (t : ℕ) (p : List ℕ) (x : ℕ)
    → column (theta_parities t p) x ≡ bit_xor (column p x) (bit_xor (column p (x + 4 * t)) (rotl (column p (x + t)) (t % 64)))
unfolding theta_parities
theta_parities_at t p x =
    let e0 : column p (x % 5) ≡ column p x = column_same p (x % 5) x (omega arith) in
    let e1 : column p (x % 5 + 4 * t) ≡ column p (x + 4 * t) = column_same p (x % 5 + 4 * t) (x + 4 * t) (five_apart _ _ (x / 5) (omega arith)) in
    let e2 : column p (x % 5 + t) ≡ column p (x + t) = column_same p (x % 5 + t) (x + t) (five_apart _ _ (x / 5) (omega arith)) in
    row_at _ x ∙ ap₂ bit_xor e0 (ap₂ (λ (u v : ℕ). bit_xor u (rotl v (t % 64))) e1 e2)

theta_parities_row : (t : ℕ) (p : List ℕ) → Row p → Row (theta_parities t p)
theta_parities_row t p r x = subst (λ (w : ℕ). w < 2 ^ 64) (sym (theta_parities_at t p x)) (xor_lt 64 _ _ (r x) (xor_lt 64 _ _ (r (x + 4 * t)) (rotl-lt _ _ (r (x + t)))))

-- ---- two distances

rotl_three : (a b c n : ℕ) → a < 2 ^ 64 → b < 2 ^ 64 → c < 2 ^ 64 → n < 64 → rotl (bit_xor a (bit_xor b c)) n ≡ bit_xor (rotl a n) (bit_xor (rotl b n) (rotl c n))
rotl_three a b c n ha hb hc hn = rotl-xor a (bit_xor b c) n ha (xor_lt 64 b c hb hc) hn ∙ ap (bit_xor (rotl a n)) (rotl-xor b c n hb hc hn)

turn_lt : (t : ℕ) → t % 64 < 64
turn_lt t = mod-lt t (lit< tt)

module _ (p : List ℕ) (r : Row p) where
  theta_parities-theta_parities : (s t x : ℕ)
      → column (theta_parities s (theta_parities t p)) x
      ≡ nine (column p x) (column p (x + 4 * t)) (rotl (column p (x + t)) (t % 64))
      (column p (x + 4 * s)) (column p (x + 4 * s + 4 * t)) (rotl (column p (x + 4 * s + t)) (t % 64))
      (rotl (column p (x + s)) (s % 64)) (rotl (column p (x + s + 4 * t)) (s % 64)) (rotl (column p (x + s + t)) ((t % 64 + s % 64) % 64))
  unfolding nine
  theta_parities-theta_parities s t x =
      let far : rotl (rotl (column p (x + s + t)) (t % 64)) (s % 64) ≡ rotl (column p (x + s + t)) ((t % 64 + s % 64) % 64) =
      rotl-rotl (column p (x + s + t)) (t % 64) (s % 64) (r (x + s + t)) (turn_lt t) (turn_lt s) in
      let last : rotl (column (theta_parities t p) (x + s)) (s % 64)
      ≡ bit_xor (rotl (column p (x + s)) (s % 64)) (bit_xor (rotl (column p (x + s + 4 * t)) (s % 64)) (rotl (column p (x + s + t)) ((t % 64 + s % 64) % 64))) =
      ap (λ (w : ℕ). rotl w (s % 64)) (theta_parities_at t p (x + s))
      ∙ rotl_three (column p (x + s)) (column p (x + s + 4 * t)) (rotl (column p (x + s + t)) (t % 64)) (s % 64) (r (x + s)) (r (x + s + 4 * t)) (rotl-lt _ _ (r (x + s + t))) (turn_lt s)
      ∙ ap (λ (w : ℕ). bit_xor (rotl (column p (x + s)) (s % 64)) (bit_xor (rotl (column p (x + s + 4 * t)) (s % 64)) w)) far in
      theta_parities_at s (theta_parities t p) x ∙ ap₂ bit_xor (theta_parities_at t p x) (ap₂ bit_xor (theta_parities_at t p (x + 4 * s)) last)

  theta_parities_comm : (s t : ℕ) → theta_parities s (theta_parities t p) ≡ theta_parities t (theta_parities s p)
  theta_parities_comm s t =
      rows_same _ _ (theta_parities-length s _) (theta_parities-length t _)
      (λ x.
      let ee : column p (x + 4 * s + 4 * t) ≡ column p (x + 4 * t + 4 * s) = ap (column p) (omega arith) in
      let ef : rotl (column p (x + 4 * s + t)) (t % 64) ≡ rotl (column p (x + t + 4 * s)) (t % 64) = ap (λ (k : ℕ). rotl (column p k) (t % 64)) (omega arith) in
      let eh : rotl (column p (x + s + 4 * t)) (s % 64) ≡ rotl (column p (x + 4 * t + s)) (s % 64) = ap (λ (k : ℕ). rotl (column p k) (s % 64)) (omega arith) in
      let ei : rotl (column p (x + s + t)) ((t % 64 + s % 64) % 64) ≡ rotl (column p (x + t + s)) ((s % 64 + t % 64) % 64) =
      ap₂ (λ (k n : ℕ). rotl (column p k) (n % 64)) (omega arith) (omega arith) in
      theta_parities-theta_parities s t x ∙ xor_ninefold _ _ _ _ _ _ _ _ _
      ∙ (λ i. nine (column p x) (column p (x + 4 * s)) (rotl (column p (x + s)) (s % 64)) (column p (x + 4 * t)) (ee i) (eh i) (rotl (column p (x + t)) (t % 64)) (ef i) (ei i))
      ∙ sym (theta_parities-theta_parities t s x))

  theta_parities_double : (t : ℕ) → theta_parities t (theta_parities t p) ≡ theta_parities (2 * t) p
  theta_parities_double t =
      rows_same _ _ (theta_parities-length t _) (theta_parities-length (2 * t) _)
      (λ x.
      let ef : column p (x + 4 * t + t) ≡ column p x = column_same p (x + 4 * t + t) x (sym (five_apart x (x + 4 * t + t) t (omega arith))) in
      let eh : column p (x + t + 4 * t) ≡ column p x = column_same p (x + t + 4 * t) x (sym (five_apart x (x + t + 4 * t) t (omega arith))) in
      let ee : column p (x + 4 * t + 4 * t) ≡ column p (x + 4 * (2 * t)) = ap (column p) (omega arith) in
      let ei : rotl (column p (x + t + t)) ((t % 64 + t % 64) % 64) ≡ rotl (column p (x + 2 * t)) ((2 * t) % 64) =
      ap₂ (λ (k n : ℕ). rotl (column p k) n) (omega arith) (omega arith) in
      theta_parities-theta_parities t t x
      ∙ (λ i. nine (column p x) (column p (x + 4 * t)) (rotl (column p (x + t)) (t % 64)) (column p (x + 4 * t)) (ee i) (rotl (ef i) (t % 64))
      (rotl (column p (x + t)) (t % 64)) (rotl (eh i) (t % 64)) (ei i))
      ∙ xor_pairs (column p x) (column p (x + 4 * t)) (rotl (column p (x + t)) (t % 64)) (column p (x + 4 * (2 * t))) (rotl (column p x) (t % 64)) (rotl (column p (x + 2 * t)) ((2 * t) % 64))
      ∙ sym (theta_parities_at (2 * t) p x))

  -- by 64 and by 128 nothing is rotated, and the four other words are there twice
  theta_parities_64_128 : length p ≡ 5 → theta_parities 128 (theta_parities 64 p) ≡ p
  theta_parities_64_128 e =
      rows_same _ p (theta_parities-length 128 _) e
      (λ x.
      theta_parities-theta_parities 128 64 x
      ∙ (λ i. nine (column p x) (column_same p (x + 256) (x + 1) (omega arith) i) ((rotl-zero _ ∙ column_same p (x + 64) (x + 4) (omega arith)) i)
      (column_same p (x + 512) (x + 2) (omega arith) i) (column_same p (x + 512 + 256) (x + 3) (omega arith) i) ((rotl-zero _ ∙ column_same p (x + 512 + 64) (x + 1) (omega arith)) i)
      ((rotl-zero _ ∙ column_same p (x + 128) (x + 3) (omega arith)) i) ((rotl-zero _ ∙ column_same p (x + 128 + 256) (x + 4) (omega arith)) i)
      ((rotl-zero _ ∙ column_same p (x + 128 + 64) (x + 2) (omega arith)) i))
      ∙ xor_cancelled (column p x) (column p (x + 1)) (column p (x + 2)) (column p (x + 3)) (column p (x + 4)))

-- ---- all seven

pub untheta_parities_row : (p : List ℕ) → Row p → Row (untheta_parities p)
unfolding untheta_parities
untheta_parities_row p r =
    theta_parities_row _ _ (theta_parities_row _ _ (theta_parities_row _ _ (theta_parities_row _ _ (theta_parities_row _ _ (theta_parities_row _ _ (theta_parities_row _ p r))))))

pub untheta_parities-length : (p : List ℕ) → length (untheta_parities p) ≡ 5
unfolding untheta_parities
untheta_parities-length p = theta_parities-length _ _

-- one after the other is the double of the last
pub untheta_parities-theta_parities : (p : List ℕ) → Row p → length p ≡ 5 → untheta_parities (theta_parities 1 p) ≡ p
unfolding untheta_parities
untheta_parities-theta_parities p r e =
    ap (λ (q : List ℕ). theta_parities 128 (theta_parities 32 (theta_parities 16 (theta_parities 8 (theta_parities 4 (theta_parities 2 q)))))) (theta_parities_double p r 1)
    ∙ ap (λ (q : List ℕ). theta_parities 128 (theta_parities 32 (theta_parities 16 (theta_parities 8 (theta_parities 4 q))))) (theta_parities_double p r 2)
    ∙ ap (λ (q : List ℕ). theta_parities 128 (theta_parities 32 (theta_parities 16 (theta_parities 8 q)))) (theta_parities_double p r 4)
    ∙ ap (λ (q : List ℕ). theta_parities 128 (theta_parities 32 (theta_parities 16 q))) (theta_parities_double p r 8)
    ∙ ap (λ (q : List ℕ). theta_parities 128 (theta_parities 32 q)) (theta_parities_double p r 16)
    ∙ ap (theta_parities 128) (theta_parities_double p r 32)
    ∙ theta_parities_64_128 p r e

-- `theta_parities 1` goes inwards past another distance
commuted : (t : ℕ) (p q : List ℕ) → Row p → theta_parities 1 p ≡ q → theta_parities 1 (theta_parities t p) ≡ theta_parities t q
commuted t p q r e = theta_parities_comm p r 1 t ∙ ap (theta_parities t) e

pub theta_parities-untheta_parities : (p : List ℕ) → Row p → length p ≡ 5 → theta_parities 1 (untheta_parities p) ≡ p
unfolding untheta_parities
theta_parities-untheta_parities p r e =
    let r1 : Row (theta_parities 1 p) = theta_parities_row 1 p r in
    let r2 : Row (theta_parities 2 (theta_parities 1 p)) = theta_parities_row 2 _ r1 in
    let r4 : Row (theta_parities 4 (theta_parities 2 (theta_parities 1 p))) = theta_parities_row 4 _ r2 in
    let r8 : Row (theta_parities 8 (theta_parities 4 (theta_parities 2 (theta_parities 1 p)))) = theta_parities_row 8 _ r4 in
    let r16 : Row (theta_parities 16 (theta_parities 8 (theta_parities 4 (theta_parities 2 (theta_parities 1 p))))) = theta_parities_row 16 _ r8 in
    let r32 : Row (theta_parities 32 (theta_parities 16 (theta_parities 8 (theta_parities 4 (theta_parities 2 (theta_parities 1 p)))))) = theta_parities_row 32 _ r16 in
    commuted 128 _ _ r32 (commuted 32 _ _ r16 (commuted 16 _ _ r8 (commuted 8 _ _ r4 (commuted 4 _ _ r2 (commuted 2 _ _ r1 refl)))))
    ∙ untheta_parities-theta_parities p r e
