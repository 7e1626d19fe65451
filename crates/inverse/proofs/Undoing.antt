-- The rounds that are left to undo after one more, and when none is left.
-- Assumes nothing.
use mathlib.Core.Path.{◌≡◌, refl, sym, ap, ◌∙◌}
use mathlib.Core.List.{List, [], ◌∷◌, ◌++◌}
use Prim.Native.Nat.{ℕ, suc, ◌+◌, ◌-◌, ◌<◌, ◌≤◌}
use native.Mathlib.Omega.{arith}
use lib.ListN.{length, get_or, take, drop, length-drop}
use lib.Seq.{take-suc, take_all, get_or-drop}
use Rattle.keccak.specs.Permutation.{round_constants}
use Rattle.inverse.specs.Inverse.{unround, unrounds, last_unrounds}
use Rattle.inverse.proofs.Rounds.{last_unrounds_lem}

-- the last constant is undone first
unrounds_last : (rcs : List ℕ) (rc : ℕ) (a : List ℕ) → unrounds (rcs ++ rc ∷ []) a ≡ unrounds rcs (unround rc a)
unfolding unrounds
unrounds_last [] rc a = refl
unrounds_last (c ∷ rcs) rc a = ap (unround c) (unrounds_last rcs rc a)

-- r is what undoing the first i rounds makes of a. The last of them undone to b, undoing the others makes the same of it
one_undone : (rcs a b r : List ℕ) (i : ℕ) → 0 < i → i ≤ length rcs → b ≡ unround (get_or rcs (i - 1) 0) a → unrounds (take i rcs) a ≡ r
    → unrounds (take (i - 1) rcs) b ≡ r
one_undone rcs a b r i pos h e inv =
    let j : ℕ = i - 1 in
    let ei : i ≡ suc j = omega arith in
    let hj : j < length rcs = omega arith in
    ap (unrounds (take j rcs)) e ∙ sym (unrounds_last (take j rcs) (get_or rcs j 0) a)
    ∙ sym (ap (λ (l : List ℕ). unrounds l a) (ap (λ (n : ℕ). take n rcs) ei ∙ take-suc rcs j 0 hj)) ∙ inv

-- of the last n of the 24 rounds
last_length : (n : ℕ) → n ≤ 24 → length (drop (24 - n) round_constants) ≡ n
last_length n h = omega (arith, length-drop (24 - n) round_constants)

pub one_less : (n : ℕ) (a b r : List ℕ) (i : ℕ) → 0 < i → i ≤ n → n ≤ 24 → b ≡ unround (get_or round_constants (24 - n + (i - 1)) 0) a
    → unrounds (take i (drop (24 - n) round_constants)) a ≡ r → unrounds (take (i - 1) (drop (24 - n) round_constants)) b ≡ r
one_less n a b r i pos h most e inv =
    let within : i ≤ length (drop (24 - n) round_constants) = omega (arith, last_length n most) in
    one_undone (drop (24 - n) round_constants) a b r i pos within (e ∙ ap (λ (rc : ℕ). unround rc a) (sym (get_or-drop (24 - n) round_constants (i - 1) 0))) inv

pub all_undone : (rcs a r : List ℕ) (i : ℕ) → i ≡ 0 → unrounds (take i rcs) a ≡ r → a ≡ r
unfolding unrounds
all_undone rcs a r i e inv = sym (ap (λ (n : ℕ). unrounds (take n rcs) a) e) ∙ inv

-- all n of them are left at first
pub all_left : (n : ℕ) (a : List ℕ) → n ≤ 24 → unrounds (take n (drop (24 - n) round_constants)) a ≡ last_unrounds n a
all_left n a h =
    let whole : length (drop (24 - n) round_constants) ≤ n = omega (arith, last_length n h) in
    ap (λ (l : List ℕ). unrounds l a) (take_all n (drop (24 - n) round_constants) whole) ∙ last_unrounds_lem n a h
