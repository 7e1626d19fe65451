-- What the loop of length_encode asks: the bytes come off a number at its low end, and go into the array from its end. And what a caller
-- knows of an encoding.
-- Assumes nothing.
use mathlib.Core.Path.{◌≡◌, refl, sym, ap, ap₂, ◌∙◌}
use mathlib.Core.List.{List, [], ◌∷◌, ◌++◌}
use Prim.Native.Nat.{ℕ, zero, suc, ◌-◌, ◌/◌, ◌%◌, ◌^◌, ◌≤◌, ◌<◌}
use native.Mathlib.Nat.{le_refl}
use native.Mathlib.Numerals.{add-one}
use native.Mathlib.Omega.{arith}
use lib.ListN.{length, take, drop, set, replicate, length-append, length-replicate, length-drop, take-append-drop}
use lib.Seq.{drop_at, take_all, take-take, take-set-le}
use Rattle.sponge.specs.Digits.{digits}
use Rattle.sponge.proofs.Digits.{digits_last, number_behind, count_last, digits_short}
use Rattle.kangarootwelve.specs.Published.{length_encode}
use Rattle.kangarootwelve.specs.Model.{encoding_of}
use Rattle.kangarootwelve.specs.declared.LengthEncoding.{LengthEncoding}

-- ---- how many bytes an encoding has

count_1 : (x : ℕ) → 0 < x → x < 256 → length (digits x x) ≡ 1
count_1 x h l = let z : x / 256 ≡ 0 = omega arith in count_last x h ∙ rw z

count_2 : (x : ℕ) → 256 ≤ x → x < 65536 → length (digits x x) ≡ 2
count_2 x h l = count_last x (omega arith) ∙ ap suc (count_1 (x / 256) (omega arith) (omega arith))

count_3 : (x : ℕ) → 65536 ≤ x → x < 16777216 → length (digits x x) ≡ 3
count_3 x h l = count_last x (omega arith) ∙ ap suc (count_2 (x / 256) (omega arith) (omega arith))

encode_count : (x n : ℕ) → length (digits x x) ≡ n → suc n ≡ length (length_encode x)
unfolding length_encode
encode_count x n e = sym (length-append (digits x x) (length (digits x x) ∷ []) ∙ add-one _ ∙ ap suc e)

pub encode_1 : (x : ℕ) → x ≡ 0 → 1 ≡ length (length_encode x)
encode_1 x e = rw e (encode_count 0 0 refl)

pub encode_2 : (x : ℕ) → (x ≡ 0 → ⊥) → x < 256 → 2 ≡ length (length_encode x)
encode_2 x h l = encode_count x 1 (count_1 x (omega (arith, h)) l)

pub encode_3 : (x : ℕ) → 256 ≤ x → x < 65536 → 3 ≡ length (length_encode x)
encode_3 x h l = encode_count x 2 (count_2 x h l)

pub encode_4 : (x : ℕ) → 65536 ≤ x → x < 16777216 → 4 ≡ length (length_encode x)
encode_4 x h l = encode_count x 3 (count_3 x h l)

-- the bytes before it stay
pub before_put : (i : ℕ) (s s₀ : List ℕ) (b : ℕ) → take i s ≡ take i s₀ → take (i - 1) (set s (i - 1) b) ≡ take (i - 1) s₀
before_put i s s₀ b e =
    let less : i - 1 ≤ i = omega arith in
    take-set-le (i - 1) s (i - 1) b (le_refl (i - 1)) ∙ sym (take-take (i - 1) i s less) ∙ ap (take (i - 1)) e ∙ take-take (i - 1) i s₀ less

-- the bytes, and behind them their number
pub encoded : (x i : ℕ) (s : List ℕ) → i ≤ 8 → length s ≡ 9 → take (8 - i) (drop i s) ≡ digits x x → drop i (set s 8 (8 - i)) ≡ length_encode x
unfolding length_encode
encoded x i s h l e = number_behind 8 i s (digits x x) h l e

-- ---- the public call: the encoding at the end of nine bytes, after zeros

pub encoding_short : (x k : ℕ) → x < 256 ^ k → length (length_encode x) ≤ suc k
unfolding length_encode
encoding_short x k h =
    let less : length (digits x x) ≤ k = digits_short x x k h in
    rw (length-append (digits x x) (length (digits x x) ∷ [])) (omega arith)

take_zeros : (i n : ℕ) → i ≤ n → ◌≡◌ {A = List ℕ} (take i (replicate n 0)) (replicate i 0)
take_zeros zero n h = refl
take_zeros (suc i) zero h = absurd (omega arith)
take_zeros (suc i) (suc n) h = ap (λ (s : List ℕ). 0 ∷ s) (take_zeros i n (omega arith))

pub encoding_is : (x i : ℕ) (s : List ℕ) → i ≤ 8 → length s ≡ 9 → drop i s ≡ length_encode x → take i s ≡ take i (replicate 9 0)
    → ◌≡◌ {A = LengthEncoding} (record { bytes = s; start = i }) (encoding_of x)
unfolding encoding_of
encoding_is x i s h l e z =
    let n : length (length_encode x) ≡ 9 - i = ap length (sym e) ∙ length-drop i s ∙ ap (λ (k : ℕ). k - i) l in
    let w : i ≡ 9 - length (length_encode x) = omega arith in
    let b : s ≡ replicate i 0 ++ length_encode x = sym (take-append-drop i s) ∙ ap₂ (λ (p q : List ℕ). p ++ q) (z ∙ take_zeros i 9 (omega arith)) e in
    ap (λ (t : List ℕ). record { bytes = t; start = i }) b ∙ ap (λ (k : ℕ). record { bytes = replicate k 0 ++ length_encode x; start = k }) w

-- what a caller knows of the answer a
module _ (x : ℕ) (a : LengthEncoding) (e : a ≡ encoding_of x) where
  pub encoding_start : a.start ≤ 9
  unfolding encoding_of
  encoding_start = rw e (omega arith)

  pub encoding_slice : (s : List ℕ) → s ≡ drop a.start a.bytes → s ≡ length_encode x
  unfolding encoding_of
  encoding_slice s w = let k : ℕ = 9 - length (length_encode x) in w ∙ rw e (drop_at (replicate k 0) (length_encode x) k (length-replicate k 0))

  module _ (h : x < 256 ^ 8) where
    pub encoding_length : length a.bytes ≡ 9
    unfolding encoding_of
    encoding_length =
        let n : length (length_encode x) ≤ 9 = encoding_short x 8 h in
        let k : ℕ = 9 - length (length_encode x) in
        rw (e, length-append (replicate k 0) (length_encode x), length-replicate {A = ℕ} k 0) (omega arith)

    pub encoding_part : take (9 - a.start) (drop a.start a.bytes) ≡ length_encode x
    unfolding encoding_of
    encoding_part =
        let n : length (length_encode x) ≤ 9 = encoding_short x 8 h in
        let k : ℕ = 9 - length (length_encode x) in
        rw e (ap (take (9 - k)) (drop_at (replicate k 0) (length_encode x) k (length-replicate k 0)) ∙ take_all (9 - k) (length_encode x) (omega arith))

-- the encodings of one byte at most
pub encode_zero : length_encode 0 ≡ 0 ∷ []
unfolding length_encode
encode_zero = refl

pub encode_byte : (x : ℕ) → 0 < x → x < 256 → length_encode x ≡ x ∷ 1 ∷ []
unfolding length_encode
encode_byte x h l =
    let none : x / 256 ≡ 0 = omega arith in
    let same : x % 256 ≡ x = omega arith in
    rw (digits_last x h, none, same)
