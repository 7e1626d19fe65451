-- Two different pairs (M, C) never give the same merged string, whatever their lengths; so none within the limits do.
-- Assumes nothing.
use mathlib.Core.Path.{◌≡◌, refl, sym, ap, ◌∙◌}
use mathlib.Core.List.{List, [], ◌∷◌, ◌++◌, append_assoc}
use Prim.Native.Nat.{ℕ}
use native.Mathlib.Nat.{le_refl}
use native.Mathlib.Omega.{arith}
use lib.ListN.{length, length-append}
use Rattle.sponge.specs.Digits.{digits}
use Rattle.sponge.proofs.Digits.{parts_last, number, digits_number}
use Rattle.kangarootwelve.specs.Published.{length_encode, merged}

-- C with its length follows M
pub merged_is : (m c : List ℕ) → merged m c ≡ m ++ (c ++ length_encode (length c))
unfolding merged
merged_is m c = append_assoc m c (length_encode (length c))

-- a merged string is never empty
pub merged_some : (m c : List ℕ) → merged m c ≡ [] → ⊥
unfolding merged length_encode
merged_some m c e =
    let a : List ℕ = digits (length c) (length c) in
    let n : length (m ++ c ++ (a ++ length a ∷ [])) ≡ 0 = ap length e in
    omega (arith, simp length-append at n)

pub merged-injective : (m c m' c' : List ℕ) → merged m c ≡ merged m' c' → (m ≡ m') × (c ≡ c')
unfolding merged length_encode
merged-injective m c m' c' e =
    let a : List ℕ = digits (length c) (length c) in
    let b : List ℕ = digits (length c') (length c') in
    let one : (m ++ c ++ a ≡ m' ++ c' ++ b) × (length a ∷ [] ≡ length b ∷ []) =
    parts_last (m ++ c ++ a) (length a ∷ []) (m' ++ c' ++ b) (length b ∷ []) refl (append_assoc (m ++ c) a (length a ∷ []) ∙ e ∙ sym (append_assoc (m' ++ c') b (length b ∷ []))) in
    let long : length a ≡ length b = cc one.1 in
    let two : (m ++ c ≡ m' ++ c') × (a ≡ b) = parts_last (m ++ c) a (m' ++ c') b long one.0 in
    parts_last m c m' c' (sym (digits_number (length c) (length c) (le_refl _)) ∙ ap number two.1 ∙ digits_number (length c') (length c') (le_refl _)) two.0
