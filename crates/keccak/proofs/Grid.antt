-- How long `from` and a grid are, what stands where in them, when a grid is a given list of 25 lanes, and that a grid of words is a state.
-- Assumes nothing.
use mathlib.Core.Path.{◌≡◌, refl, sym, ap, ap₂, ◌∙◌, subst}
use mathlib.Core.List.{List, [], ◌∷◌}
use Prim.Native.Nat.{ℕ, zero, suc, ◌+◌, ◌*◌, ◌/◌, ◌%◌, ◌^◌, ◌<◌}
use native.Mathlib.Nat.{add-zero, zero-add, add-suc, suc-add, le_of_suc-le-suc, not-suc-le-zero}
use native.Mathlib.Omega.{arith}
use lib.ListN.{length, get_or}
use lib.Pow.{pow_pos}
use lib.Seq.{ext_get_or}
use Rattle.keccak.specs.State.{State, lane, from, grid}

pub from-length : (f : ℕ → ℕ) (i n : ℕ) → length (from i n f) ≡ n
unfolding from
from-length f i zero = refl
from-length f i (suc n) = ap suc (from-length f (suc i) n)

pub from-five : (f : ℕ → ℕ) → from 0 5 f ≡ f 0 ∷ f 1 ∷ f 2 ∷ f 3 ∷ f 4 ∷ []
unfolding from
from-five f = refl

pub from-lanes : (f : ℕ → ℕ)
    → from 0 25 f
    ≡ f 0 ∷ f 1 ∷ f 2 ∷ f 3 ∷ f 4 ∷ f 5 ∷ f 6 ∷ f 7 ∷ f 8 ∷ f 9 ∷ f 10 ∷ f 11 ∷ f 12 ∷ f 13 ∷ f 14 ∷ f 15 ∷ f 16 ∷ f 17 ∷ f 18 ∷ f 19
    ∷ f 20 ∷ f 21 ∷ f 22 ∷ f 23 ∷ f 24 ∷ []
unfolding from
from-lanes f = refl

pub from_at : (f : ℕ → ℕ) (i n k : ℕ) → k < n → get_or (from i n f) k 0 ≡ f (i + k)
unfolding from
from_at f i zero k h = absurd (not-suc-le-zero h)
from_at f i (suc n) zero h = ap f (sym (add-zero i))
from_at f i (suc n) (suc k) h = from_at f (suc i) n k (le_of_suc-le-suc h) ∙ ap f (suc-add i k ∙ sym (add-suc i k))

pub grid-length : (f : ℕ → ℕ → ℕ) → length (grid f) ≡ 25
unfolding grid
grid-length f = from-length (λ i. f (i % 5) (i / 5)) 0 25

from-words : (f : ℕ → ℕ) (i n : ℕ) → ((j : ℕ) → f j < 2 ^ 64) → (k : ℕ) → get_or (from i n f) k 0 < 2 ^ 64
unfolding from
from-words f i zero h k = pow_pos 64
from-words f i (suc n) h zero = h i
from-words f i (suc n) h (suc k) = from-words f (suc i) n h k

pub grid-words : (f : ℕ → ℕ → ℕ) → ((x y : ℕ) → f x y < 2 ^ 64) → (k : ℕ) → get_or (grid f) k 0 < 2 ^ 64
unfolding grid
grid-words f h k = from-words (λ i. f (i % 5) (i / 5)) 0 25 (λ j. h (j % 5) (j / 5)) k

pub grid-state : (f : ℕ → ℕ → ℕ) → ((x y : ℕ) → f x y < 2 ^ 64) → State (grid f)
grid-state f h = record { lanes = grid-length f; words = grid-words f h }

-- ---- coordinates count modulo 5

-- where the one is so many fives above the other: the quotient is handed over, since `omega` does not find it
pub five_apart : (x u q : ℕ) → x + 5 * q ≡ u → x % 5 ≡ u % 5
five_apart x u q e = omega arith

pub lane_same : (a : List ℕ) (x y u v : ℕ) → x % 5 ≡ u % 5 → y % 5 ≡ v % 5 → lane a x y ≡ lane a u v
lane_same a x y u v ex ey = ap₂ (λ (i j : ℕ). get_or a (i + 5 * j) 0) ex ey

pub lane_reduced : (a : List ℕ) (x y : ℕ) → lane a (x % 5) (y % 5) ≡ lane a x y
lane_reduced a x y = lane_same a (x % 5) (y % 5) x y (omega arith) (omega arith)

-- ---- the lanes of a grid

pub grid_at : (f : ℕ → ℕ → ℕ) (k : ℕ) → k < 25 → get_or (grid f) k 0 ≡ f (k % 5) (k / 5)
unfolding grid
grid_at f k h = from_at (λ i. f (i % 5) (i / 5)) 0 25 k h ∙ ap (λ (i : ℕ). f (i % 5) (i / 5)) (zero-add k)

pub grid-lane : (f : ℕ → ℕ → ℕ) (x y : ℕ) → lane (grid f) x y ≡ f (x % 5) (y % 5)
grid-lane f x y =
    let k : ℕ = x % 5 + 5 * (y % 5) in
    let h : k < 25 = omega arith in
    let ex : k % 5 ≡ x % 5 = omega arith in
    let ey : k / 5 ≡ y % 5 = omega arith in
    grid_at f k h ∙ ap₂ f ex ey

pub grid_same : (f : ℕ → ℕ → ℕ) (a : List ℕ) → length a ≡ 25 → ((x y : ℕ) → f x y ≡ lane a x y) → grid f ≡ a
grid_same f a e h =
    ext_get_or 0 (grid f) a (grid-length f ∙ sym e)
    λ k g.
    let g' : k < 25 = subst (λ (n : ℕ). k < n) (grid-length f) g in
    let i : k % 5 % 5 + 5 * (k / 5 % 5) ≡ k = omega arith in
    grid_at f k g' ∙ h (k % 5) (k / 5) ∙ ap (λ (n : ℕ). get_or a n 0) i
