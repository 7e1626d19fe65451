-- The bytes of a number of 64 bits, as the code has them: how many there are, by the zeros above the number, and that they are the last of its eight.
-- Assumes nothing.
use mathlib.Core.Path.{◌≡◌, refl, sym, ap, ◌∙◌, subst}
use mathlib.Core.List.{List, [], ◌∷◌, ◌++◌}
use Prim.Native.Nat.{ℕ, zero, suc, ◌+◌, ◌-◌, ◌*◌, ◌/◌, ◌%◌, ◌^◌, ◌≤◌, ◌<◌, zero-le}
use native.Mathlib.Nat.{zero-lt-suc, le_refl, le_trans, pow-suc, pow-succ', pow-le-pow_right, div-div-eq-div-mul}
use native.Mathlib.Omega.{arith}
use lib.Count.{count_leading_zeros}
use lib.ListN.{length, take, drop, length-drop}
use lib.Seq.{take_all}
use Rattle.std.specs.Int.{byte_at, bytes_high_first}
use Rattle.std.proofs.lemmas.Nat.{leading_top, pow-add, le-div}
use Rattle.sponge.specs.Digits.{digits}
use Rattle.sponge.proofs.Digits.{digits_last, digits_short, count_last}
use Rattle.sp800_185.specs.Published.{one_at_least, bytes_of, left_encode, right_encode}
use Rattle.sp800_185.proofs.Blocks.{left_most}

one_some : (s : List ℕ) (b : ℕ) → one_at_least (s ++ b ∷ []) ≡ s ++ b ∷ []
one_some [] b = refl
one_some (c ∷ s) b = refl

bytes_some : (x : ℕ) → 0 < x → bytes_of x ≡ digits x x
bytes_some x h = ap one_at_least (digits_last x h) ∙ one_some (digits (x / 256) (x / 256)) (x % 256) ∙ sym (digits_last x h)

-- ---- how many there are

-- a number of 256 ^ k and more has more than k bytes
digits_long : (k x : ℕ) → 256 ^ k ≤ x → k < length (digits x x)
digits_long zero x h =
    let some : 0 < x = omega arith in
    omega (arith, count_last x some)
digits_long (suc k) x h =
    let l : 256 ^ k * 256 ≤ x = subst (λ (n : ℕ). n ≤ x) (pow-suc 256 k) h in
    let one : 256 ^ zero ≤ 256 ^ k = pow-le-pow_right (omega arith) zero-le in
    let some : 0 < x = omega arith in
    omega (arith, count_last x some, digits_long k (x / 256) (le-div (256 ^ k) x 256 (omega arith) l))

in_bits : (k : ℕ) → 256 ^ k ≡ 2 ^ (8 * k)
in_bits zero = refl
in_bits (suc k) =
    let e : 8 * suc k ≡ 8 * k + 8 = omega arith in
    pow-suc 256 k ∙ ap (λ (n : ℕ). n * 256) (in_bits k) ∙ sym (pow-add 2 (8 * k) 8) ∙ ap (λ (n : ℕ). 2 ^ n) (sym e)

digits_counted : (x : ℕ) → 0 < x → x < 2 ^ 64 → length (digits x x) ≡ 8 - count_leading_zeros 64 x / 8
digits_counted x some fits =
    let t = leading_top 64 x some fits in
    let j = t.0 in
    let k : ℕ = j / 8 in
    let under : 256 ^ k ≤ x = le_trans (subst (λ (n : ℕ). n ≤ 2 ^ j) (sym (in_bits k)) (pow-le-pow_right (omega arith) (omega arith))) t.2 in
    let wide : 2 ^ suc j ≤ 256 ^ suc k = subst (λ (n : ℕ). 2 ^ suc j ≤ n) (sym (in_bits (suc k))) (pow-le-pow_right (omega arith) (omega arith)) in
    let over : x < 256 ^ suc k = omega (arith, t.3, wide) in
    omega (arith, t.1, digits_long k x under, digits_short x x (suc k) over)

pub counted : (x : ℕ) → (x ≡ 0 → ⊥) → x < 2 ^ 64 → 8 - count_leading_zeros 64 x / 8 ≡ length (bytes_of x)
counted x h fits = let some : 0 < x = omega (arith, h) in sym (ap length (bytes_some x some) ∙ digits_counted x some fits)

-- of a number of 64 bits, at most nine with their number
pub left_short : (x : ℕ) → x < 2 ^ 64 → length (left_encode x) ≤ 9
left_short x h = left_most x 8 h (omega arith)

pub bytes_few : (x : ℕ) → x < 2 ^ 64 → (1 ≤ length (bytes_of x)) × (length (bytes_of x) ≤ 8)
unfolding left_encode
bytes_few x h = let few = left_short x h in (some x, omega (arith, few))
  where
    some : (y : ℕ) → 1 ≤ length (bytes_of y)
    some zero = omega arith
    some (suc y) = rw (bytes_some (suc y) (zero-lt-suc y), count_last (suc y) (zero-lt-suc y)) (omega arith)

-- ---- the last of its eight

byte_up : (k x : ℕ) → byte_at (suc k) x ≡ byte_at k (x / 256)
byte_up zero x = refl
byte_up (suc k) x = ap (λ (n : ℕ). x / n % 256) (pow-succ' 256 (suc k)) ∙ ap (λ (n : ℕ). n % 256) (sym (div-div-eq-div-mul x 256 (256 ^ suc k)))

high_last : (k x : ℕ) → bytes_high_first (suc k) x ≡ bytes_high_first k (x / 256) ++ x % 256 ∷ []
high_last zero x = refl
high_last (suc k) x = λ i. byte_up k x i ∷ high_last k x i

high_digits : (k x : ℕ) → length (digits x x) ≡ k → bytes_high_first k x ≡ digits x x
high_digits zero zero e = refl
high_digits zero (suc x) e = absurd (omega (arith, e, count_last (suc x) (zero-lt-suc x)))
high_digits (suc k) zero e = absurd (omega (arith, e))
high_digits (suc k) (suc x) e =
    high_last k (suc x)
    ∙ ap (λ (s : List ℕ). s ++ suc x % 256 ∷ []) (high_digits k (suc x / 256) (omega (arith, e, count_last (suc x) (zero-lt-suc x))))
    ∙ sym (digits_last (suc x) (zero-lt-suc x))

high_bytes : (x : ℕ) → bytes_high_first (length (bytes_of x)) x ≡ bytes_of x
high_bytes zero = refl
high_bytes (suc x) =
    let e = bytes_some (suc x) (zero-lt-suc x) in
    ap (λ (k : ℕ). bytes_high_first k (suc x)) (ap length e) ∙ high_digits (length (digits (suc x) (suc x))) (suc x) refl ∙ sym e

drop_high : (m n k x : ℕ) → k ≡ n + m → drop m (bytes_high_first k x) ≡ bytes_high_first n x
drop_high zero n k x e = ap (λ (j : ℕ). bytes_high_first j x) (omega (arith, e))
drop_high (suc m) n zero x e = absurd (omega (arith, e))
drop_high (suc m) n (suc k) x e = drop_high m n k x (omega (arith, e))

-- as a slice of them
last_bytes : (x n : ℕ) (s : List ℕ) → n ≡ length (bytes_of x) → n ≤ 8 → s ≡ bytes_high_first 8 x → take (8 - (8 - n)) (drop (8 - n) s) ≡ bytes_of x
last_bytes x n s e h w =
    let eight : length s ≡ 8 = ap length w in
    take_all (8 - (8 - n)) (drop (8 - n) s) (rw (length-drop (8 - n) s, eight) (le_refl (8 - (8 - n))))
    ∙ ap (drop (8 - n)) w
    ∙ drop_high (8 - n) n 8 x (omega arith)
    ∙ ap (λ (k : ℕ). bytes_high_first k x) e
    ∙ high_bytes x

-- ---- with their number

pub left_bytes : (x n : ℕ) (s : List ℕ) → n ≡ length (bytes_of x) → n ≤ 8 → s ≡ bytes_high_first 8 x → n ∷ take (8 - (8 - n)) (drop (8 - n) s) ≡ left_encode x
unfolding left_encode
left_bytes x n s e h w = λ i. e i ∷ last_bytes x n s e h w i

pub right_bytes : (x n : ℕ) (s : List ℕ) → n ≡ length (bytes_of x) → n ≤ 8 → s ≡ bytes_high_first 8 x → take (8 - (8 - n)) (drop (8 - n) s) ++ n ∷ [] ≡ right_encode x
unfolding right_encode
right_bytes x n s e h w = λ i. last_bytes x n s e h w i ++ e i ∷ []
