-- The rounds that are left after one more, and when none is left.
-- Assumes nothing.
use mathlib.Core.Path.{◌≡◌, refl, sym, ap, ◌∙◌}
use mathlib.Core.List.{List}
use Prim.Native.Nat.{ℕ, ◌+◌, ◌-◌, ◌≤◌, ◌<◌}
use native.Mathlib.Numerals.{add-one}
use borrow.Author.Tests.{le-leb, lt-leb}
use native.Mathlib.Omega.{arith}
use lib.ListN.{length, get_or, take, drop, length-drop}
use lib.Seq.{drop-cons, drop-length, take_all}
use Rattle.keccak.specs.Round.{round}
use Rattle.keccak.specs.Permutation.{rounds, round_constants, rounds_status, last_rounds}

-- r is what the rounds from i on make of a. One of them done to b, those from i + 1 on make the same of it
pub one_more : (rcs a b r : List ℕ) (i : ℕ) → i < length rcs → b ≡ round (get_or rcs i 0) a → rounds (drop i rcs) a ≡ r → rounds (drop (i + 1) rcs) b ≡ r
unfolding rounds
one_more rcs a b r i h e inv =
    ap (rounds (drop (i + 1) rcs)) e ∙ sym (rw (add-one, drop-cons rcs i 0 h) refl) ∙ inv

pub none_left : (rcs a r : List ℕ) (i : ℕ) → i ≡ length rcs → rounds (drop i rcs) a ≡ r → a ≡ r
unfolding rounds
none_left rcs a r i e inv = sym (ap (λ (l : List ℕ). rounds l a) (ap (λ (k : ℕ). drop k rcs) e ∙ drop-length rcs)) ∙ inv

-- the two cases of a number of rounds
pub all_taken : (n : ℕ) → n ≤ 24 → 0 ≡ rounds_status n
all_taken n h = rw (le-leb n 24 h)

pub too_many : (n : ℕ) → 24 < n → 16 ≡ rounds_status n
too_many n h = rw (lt-leb n 24 h)

pub last_rounds_lem : (n : ℕ) (a : List ℕ) → n ≤ 24 → rounds (drop (24 - n) round_constants) a ≡ last_rounds n a
unfolding last_rounds
last_rounds_lem n a h = rw (le-leb n 24 h)

-- the constants of the last n rounds, as a loop over them takes them
pub last_constants : (n : ℕ) (a : List ℕ) → n ≤ 24 → rounds (take (24 - (24 - n)) (drop (24 - n) round_constants)) a ≡ last_rounds n a
last_constants n a h =
    let whole : length (drop (24 - n) round_constants) ≤ 24 - (24 - n) = omega (arith, length-drop (24 - n) round_constants) in
    ap (λ (l : List ℕ). rounds l a) (take_all (24 - (24 - n)) (drop (24 - n) round_constants) whole) ∙ last_rounds_lem n a h

pub last_none : (n : ℕ) (a : List ℕ) → 24 < n → a ≡ last_rounds n a
unfolding last_rounds
last_none n a h = rw (lt-leb n 24 h)
