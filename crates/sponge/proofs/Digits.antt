-- The bytes of a number: its last one, how many there are, and that they tell it. And a byte put into an array.
-- Assumes nothing.
use mathlib.Core.Path.{◌≡◌, refl, sym, ap, ◌∙◌, subst}
use mathlib.Core.List.{List, [], ◌∷◌, ◌++◌, append_assoc, foldl, foldl-append}
use Prim.Native.Nat.{ℕ, zero, suc, ◌+◌, ◌-◌, ◌*◌, ◌/◌, ◌%◌, ◌^◌, ◌≤◌, ◌<◌, zero-le}
use native.Mathlib.Nat.{div-lt_iff_lt-mul, div-add-mod', zero-lt-suc, le_refl, pow-suc}
use native.Mathlib.Numerals.{add-one}
use native.Mathlib.Omega.{arith}
use lib.ListN.{length, take, drop, set, length-append, length-drop, drop_of_length-le}
use lib.Seq.{take_at, drop_at, set_split, drop-set-add, length-take-le}
use Rattle.sponge.specs.Digits.{digits}

-- as many steps as the number are enough, and more change nothing
digits_enough : (f g x : ℕ) → x ≤ f → x ≤ g → digits f x ≡ digits g x
digits_enough zero zero x h k = refl
digits_enough zero (suc g) zero h k = refl
digits_enough zero (suc g) (suc x) h k = absurd (omega arith)
digits_enough (suc f) zero zero h k = refl
digits_enough (suc f) zero (suc x) h k = absurd (omega arith)
digits_enough (suc f) (suc g) zero h k = refl
digits_enough (suc f) (suc g) (suc x) h k = ap (λ (s : List ℕ). s ++ suc x % 256 ∷ []) (digits_enough f g (suc x / 256) (omega arith) (omega arith))

-- the last byte
pub digits_last : (x : ℕ) → 0 < x → digits x x ≡ digits (x / 256) (x / 256) ++ x % 256 ∷ []
digits_last zero h = absurd (omega arith)
digits_last (suc x) h = ap (λ (s : List ℕ). s ++ suc x % 256 ∷ []) (digits_enough x (suc x / 256) (suc x / 256) (omega arith) (le_refl _))

-- the array from the byte that is put on
pub drop-set : (s : List ℕ) (j b : ℕ) → j < length s → drop j (set s j b) ≡ b ∷ drop (suc j) s
drop-set s j b h = rw (set_split s j b h) (drop_at (take j s) (b ∷ drop (suc j) s) j (length-take-le j s (omega arith)))

-- one byte more from the number into an array of suc n bytes, whose last is kept for their number
pub digits-put : (n x i : ℕ) (s : List ℕ) → 0 < x → 0 < i → i ≤ n → length s ≡ suc n
    → digits (x / 256) (x / 256) ++ take (n - (i - 1)) (drop (i - 1) (set s (i - 1) (x % 256))) ≡ digits x x ++ take (n - i) (drop i s)
digits-put n x zero s h p l e = absurd (omega arith)
digits-put n x (suc j) s h p l e =
    let j' : suc j - 1 ≡ j = omega arith in
    let k : n - j ≡ suc (n - suc j) = omega arith in
    rw (j', k, drop-set s j (x % 256) (omega arith), digits_last x h) (sym (append_assoc (digits (x / 256) (x / 256)) (x % 256 ∷ []) (take (n - suc j) (drop (suc j) s))))

-- the bytes b, and behind them their number
pub number_behind : (n i : ℕ) (s b : List ℕ) → i ≤ n → length s ≡ suc n → take (n - i) (drop i s) ≡ b → drop i (set s n (n - i)) ≡ b ++ length b ∷ []
number_behind n i s b h l e =
    let k : length (drop i s) ≡ suc n - i = simp (length-drop, l) refl in
    let w : i + (n - i) ≡ n = omega arith in
    let put : drop i (set s (i + (n - i)) (n - i)) ≡ take (n - i) (drop i s) ++ (n - i) ∷ drop (suc (n - i)) (drop i s) =
    drop-set-add i s (n - i) (n - i) ∙ set_split (drop i s) (n - i) (n - i) (omega arith) in
    let none : drop (suc (n - i)) (drop i s) ≡ [] = drop_of_length-le (drop i s) {i = suc (n - i)} (omega arith) in
    let count : length b ≡ n - i = ap length (sym e) ∙ length-take-le (n - i) (drop i s) (omega arith) in
    ap (λ (k : ℕ). drop i (set s k (n - i))) (sym w) ∙ put
    ∙ ap (λ (r : List ℕ). take (n - i) (drop i s) ++ (n - i) ∷ r) none
    ∙ ap (λ (r : List ℕ). r ++ (n - i) ∷ []) e
    ∙ ap (λ (k : ℕ). b ++ k ∷ []) (sym count)

-- ---- how many there are

pub count_last : (x : ℕ) → 0 < x → length (digits x x) ≡ suc (length (digits (x / 256) (x / 256)))
count_last x h = ap length (digits_last x h) ∙ length-append (digits (x / 256) (x / 256)) (x % 256 ∷ []) ∙ add-one _

-- one byte less to go
pub room : (x i : ℕ) → 0 < i → x < 256 ^ i → x / 256 < 256 ^ (i - 1)
room x zero p h = absurd (omega arith)
room x (suc j) p h =
    let j' : suc j - 1 ≡ j = omega arith in
    rw j' ((div-lt_iff_lt-mul (zero-lt-suc 255)).1 (subst (λ (n : ℕ). x < n) (pow-suc 256 j) h))

pub room_some : (x i : ℕ) → 0 < x → x < 256 ^ i → 0 < i
room_some x zero h l = absurd (omega arith)
room_some x (suc i) h l = zero-lt-suc i

-- a number below 256 ^ k has at most k bytes
pub digits_short : (f x k : ℕ) → x < 256 ^ k → length (digits f x) ≤ k
digits_short zero x k h = zero-le
digits_short (suc f) zero k h = zero-le
digits_short (suc f) (suc x) zero h = absurd (omega arith)
digits_short (suc f) (suc x) (suc k) h =
    let k' : suc k - 1 ≡ k = omega arith in
    let less : length (digits f (suc x / 256)) ≤ k = digits_short f (suc x / 256) k (rw k' at (room (suc x) (suc k) (zero-lt-suc k) h)) in
    rw (length-append (digits f (suc x / 256)) (suc x % 256 ∷ [])) (omega arith)

-- ---- they tell the number

unfoldable pub number : List ℕ → ℕ
number = foldl (λ (v b : ℕ). v * 256 + b) 0

pub digits_number : (f x : ℕ) → x ≤ f → number (digits f x) ≡ x
unfolding number
digits_number zero zero h = refl
digits_number zero (suc x) h = absurd (omega arith)
digits_number (suc f) zero h = refl
digits_number (suc f) (suc x) h = rw (foldl-append, digits_number f (suc x / 256) (omega arith)) (div-add-mod' (suc x) 256)

-- ---- two strings that begin, or end, in strings of one length are equal part by part

pub parts_first : (a b c d : List ℕ) → length a ≡ length c → a ++ b ≡ c ++ d → (a ≡ c) × (b ≡ d)
parts_first a b c d l e = (
  sym (take_at a b (length c) l) ∙ ap (take (length c)) e ∙ take_at c d (length c) refl,
  sym (drop_at a b (length c) l) ∙ ap (drop (length c)) e ∙ drop_at c d (length c) refl,
)

pub parts_last : (a b c d : List ℕ) → length b ≡ length d → a ++ b ≡ c ++ d → (a ≡ c) × (b ≡ d)
parts_last a b c d l e = let n : length a ≡ length c = omega (arith, simp length-append at (ap length e)) in parts_first a b c d n e

unfoldable pub head : List ℕ → ℕ
head [] = 0
head (x ∷ s) = x
