-- The register of Algorithm 5 as a number has the bits of the register as a string.
-- Assumes nothing.
use mathlib.Core.Path.{◌≡◌, refl, sym, ap, ap₂, ◌∙◌}
use mathlib.Core.Bool.{Bool, true, false}
use mathlib.Core.List.{List, [], ◌∷◌}
use Prim.Native.Nat.{ℕ, zero, suc, ◌%◌, ◌<◌}
use native.Mathlib.Nat.{div-one}
use lib.Dec.{T, lit<, eqb, eqb→eq, ltb, ltb→lt}
use lib.ListN.{get_or}
use Rattle.keccak.specs.State.{from}
use Rattle.keccak.specs.Rules.{shifted, register}
use Rattle.keccak.specs.Rules as rules
use Rattle.keccak.specs.Bitwise.{r_turn, r_turns, rc}
use Rattle.keccak.proofs.Bits.{bit}
use Rattle.keccak.proofs.Grid.{from_at}
use Rattle.keccak.proofs.Table.{both, both_left, both_right, at}

-- a test of two lists, entry by entry
same : List ℕ → List ℕ → Bool
same [] [] = true
same [] (y ∷ ys) = false
same (x ∷ xs) [] = false
same (x ∷ xs) (y ∷ ys) = both (eqb x y) (same xs ys)

same→eq : (xs ys : List ℕ) → T (same xs ys) → xs ≡ ys
unfolding same
same→eq [] [] t = refl
same→eq [] (y ∷ ys) t = absurd t
same→eq (x ∷ xs) [] t = absurd t
same→eq (x ∷ xs) (y ∷ ys) t =
    ap₂ (λ (v : ℕ) (vs : List ℕ). v ∷ vs) (eqb→eq x y (both_left (eqb x y) (same xs ys) t)) (same→eq xs ys (both_right (eqb x y) (same xs ys) t))

-- the eight bits of a register
string : ℕ → List ℕ
string r = from 0 8 (bit r)

-- a turn of the string is a turn of the number, which stays below 256: computed for each of the 256 numbers
turns_alike : ℕ → ℕ → Bool
turns_alike r x = both (same (r_turn (string r)) (string (shifted r))) (ltb (shifted r) 256)

one_turn : (r : ℕ) → r < 256 → (r_turn (string r) ≡ string (shifted r)) × (shifted r < 256)
unfolding turns_alike same string r_turn shifted from
one_turn r h =
    let t : T (turns_alike r (get_or (from 0 256 (λ k. k)) r 0)) = at turns_alike (from 0 256 (λ k. k)) tt r h in (
      same→eq (r_turn (string r)) (string (shifted r)) (both_left (same (r_turn (string r)) (string (shifted r))) (ltb (shifted r) 256) t),
      ltb→lt (shifted r) 256 (both_right (same (r_turn (string r)) (string (shifted r))) (ltb (shifted r) 256) t),
    )

register-string : (i : ℕ) → (r_turns i ≡ string (register i)) × (register i < 256)
unfolding r_turns register string from
register-string zero = (refl, lit< tt)
register-string (suc i) =
    let before = register-string i in
    let turn = one_turn (register i) before.1 in
    (ap r_turn before.0 ∙ turn.0, turn.1)

pub rc_bits : (t : ℕ) → rules.rc t ≡ rc t
unfolding rules.rc rc string
rc_bits t =
    let r : ℕ = register (t % 255) in
    sym (ap (λ (R : List ℕ). get_or R 0 0) (register-string (t % 255)).0 ∙ from_at (bit r) 0 8 0 (lit< tt) ∙ ap (λ (n : ℕ). n % 2) (div-one r))
