-- Two different sets of inputs to one function never give the sponge the same string with the same ending byte, for lists of any numbers, of any
-- lengths and at any rate: no bound on a byte is asked.
-- Assumes nothing.
use mathlib.Core.Path.{◌≡◌, refl, sym, ap, ◌∙◌}
use mathlib.Core.List.{List, [], ◌∷◌, ◌++◌, append_assoc}
use Prim.Native.Nat.{ℕ, ◌-◌, ◌*◌}
use native.Mathlib.Nat.{le_refl}
use native.Mathlib.Omega.{arith}
use lib.ListN.{length, replicate}
use Rattle.sponge.specs.Cut.{ceil}
use Rattle.sponge.specs.Digits.{digits}
use Rattle.sponge.proofs.Digits.{number, digits_number, parts_first, parts_last, head}
use Rattle.sp800_185.specs.Published.{one_at_least, bytes_of, left_encode, right_encode, encode_string, bytepad, cshake_prefix, cshake_string, ending_byte, kmac_name, kmac_message, kmac_string}

tail : List ℕ → List ℕ
tail [] = []
tail (x ∷ s) = s

-- ---- the bytes of a number tell it

one_number : (s : List ℕ) → number (one_at_least s) ≡ number s
unfolding number
one_number [] = refl
one_number (b ∷ s) = refl

bytes_number : (x : ℕ) → number (bytes_of x) ≡ x
bytes_number x = one_number (digits x x) ∙ digits_number x x (le_refl x)

pub bytes-injective : (x y : ℕ) → bytes_of x ≡ bytes_of y → x ≡ y
bytes-injective x y e = sym (bytes_number x) ∙ ap number e ∙ bytes_number y

-- ---- no left_encode begins another, nor does an encode_string; no right_encode ends another

pub left_first : (x y : ℕ) (u v : List ℕ) → left_encode x ++ u ≡ left_encode y ++ v → (x ≡ y) × (u ≡ v)
unfolding left_encode head tail
left_first x y u v e =
    let p : (bytes_of x ≡ bytes_of y) × (u ≡ v) = parts_first (bytes_of x) u (bytes_of y) v (ap head e) (ap tail e) in
    (bytes-injective x y p.0, p.1)

pub string_first : (s t u v : List ℕ) → encode_string s ++ u ≡ encode_string t ++ v → (s ≡ t) × (u ≡ v)
unfolding encode_string
string_first s t u v e =
    let p : (8 * length s ≡ 8 * length t) × (s ++ u ≡ t ++ v) =
    left_first (8 * length s) (8 * length t) (s ++ u) (t ++ v) (sym (append_assoc (left_encode (8 * length s)) s u) ∙ e ∙ append_assoc (left_encode (8 * length t)) t v) in
    let l : length s ≡ length t = omega (arith, p.0) in
    parts_first s u t v l p.1

pub right_last : (x y : ℕ) (u v : List ℕ) → u ++ right_encode x ≡ v ++ right_encode y → (u ≡ v) × (x ≡ y)
unfolding right_encode head
right_last x y u v e =
    let a : List ℕ = bytes_of x in
    let b : List ℕ = bytes_of y in
    let one : (u ++ a ≡ v ++ b) × (length a ∷ [] ≡ length b ∷ []) =
    parts_last (u ++ a) (length a ∷ []) (v ++ b) (length b ∷ []) refl (append_assoc u a (length a ∷ []) ∙ e ∙ sym (append_assoc v b (length b ∷ []))) in
    let two : (u ≡ v) × (a ≡ b) = parts_last u a v b (ap head one.1) one.0 in
    (two.0, bytes-injective x y two.1)

-- ---- so each encoding is injective by itself

pub left_injective : (x y : ℕ) → left_encode x ≡ left_encode y → x ≡ y
left_injective x y e = (left_first x y [] [] (ap (λ (s : List ℕ). s ++ []) e)).0

pub right_injective : (x y : ℕ) → right_encode x ≡ right_encode y → x ≡ y
right_injective x y e = (right_last x y [] [] e).1

pub string-injective : (s t : List ℕ) → encode_string s ≡ encode_string t → s ≡ t
string-injective s t e = (string_first s t [] [] (ap (λ (s : List ℕ). s ++ []) e)).0

-- ---- bytepad, of content that tells its own end: what it holds, and what follows it

-- no string of the code begins another, and each tells what it encodes
abbrev pub PrefixFree : {A : Type 0} → (A → List ℕ) → Type 0
PrefixFree {A} f = (a b : A) (u v : List ℕ) → f a ++ u ≡ f b ++ v → (a ≡ b) × (u ≡ v)

zeros : ℕ → List ℕ → List ℕ
zeros w s = replicate (ceil w (length (left_encode w ++ s)) * w - length (left_encode w ++ s)) 0

bytepad_is : (w : ℕ) (s u : List ℕ) → bytepad s w ++ u ≡ left_encode w ++ (s ++ (zeros w s ++ u))
unfolding bytepad zeros
bytepad_is w s u = simp append_assoc

pub bytepad_first : {A : Type 0} (f : A → List ℕ) → PrefixFree f → (w : ℕ) → PrefixFree (λ (a : A). bytepad (f a) w)
bytepad_first f free w a b u v e =
    let inside = (left_first w w (f a ++ (zeros w (f a) ++ u)) (f b ++ (zeros w (f b) ++ v)) (sym (bytepad_is w (f a) u) ∙ e ∙ bytepad_is w (f b) v)).1 in
    let p = free a b (zeros w (f a) ++ u) (zeros w (f b) ++ v) inside in
    (p.0, (parts_first (zeros w (f a)) u (zeros w (f b)) v (ap (λ c. length (zeros w (f c))) p.0) p.1).1)

-- one string, and two
strings : List ℕ × List ℕ → List ℕ
strings p = encode_string p.0 ++ encode_string p.1

strings_first : PrefixFree strings
unfolding strings
strings_first (n, s) (n', s') u v e =
    let p = string_first n n' (encode_string s ++ u) (encode_string s' ++ v) (sym (append_assoc (encode_string n) (encode_string s) u) ∙ e ∙ append_assoc (encode_string n') (encode_string s') v) in
    let q = string_first s s' u v p.1 in
    (rw (p.0, q.0), q.1)

pub bytepad-string : (w : ℕ) (s t u v : List ℕ) → bytepad (encode_string s) w ++ u ≡ bytepad (encode_string t) w ++ v → (s ≡ t) × (u ≡ v)
bytepad-string = bytepad_first encode_string string_first

pub bytepad-strings : (w : ℕ) (n s n' s' u v : List ℕ) → bytepad (encode_string n ++ encode_string s) w ++ u ≡ bytepad (encode_string n' ++ encode_string s') w ++ v
    → (n ≡ n') × (s ≡ s') × (u ≡ v)
unfolding strings
bytepad-strings w n s n' s' u v e =
    let p = bytepad_first strings strings_first w (n, s) (n', s') u v e in
    (ap (λ (q : List ℕ × List ℕ). q.0) p.0, ap (λ (q : List ℕ × List ℕ). q.1) p.0, p.1)

-- ---- cSHAKE: X, N and S

pub cshake-injective : (rate : ℕ) (x n s x' n' s' : List ℕ) → cshake_string rate x n s ≡ cshake_string rate x' n' s' → ending_byte n s ≡ ending_byte n' s'
    → (x ≡ x') × (n ≡ n') × (s ≡ s')
unfolding cshake_string cshake_prefix
cshake-injective rate x n s x' n' s' = by n s n' s'
  where
    padded : (n s n' s' : List ℕ) → bytepad (encode_string n ++ encode_string s) rate ++ x ≡ bytepad (encode_string n' ++ encode_string s') rate ++ x' → (x ≡ x') × (n ≡ n') × (s ≡ s')
    padded n s n' s' e = let p = bytepad-strings rate n s n' s' x x' e in (p.2, p.0, p.1)

    by : (n s n' s' : List ℕ) → cshake_prefix rate n s ++ x ≡ cshake_prefix rate n' s' ++ x' → ending_byte n s ≡ ending_byte n' s' → (x ≡ x') × (n ≡ n') × (s ≡ s')
    by [] [] [] [] e f = (e, refl, refl)
    by [] [] [] (c ∷ s') e f = absurd (omega arith)
    by [] [] (b ∷ n') s' e f = absurd (omega arith)
    by [] (c ∷ s) [] [] e f = absurd (omega arith)
    by [] (c ∷ s) [] (c' ∷ s') e f = padded [] (c ∷ s) [] (c' ∷ s') e
    by [] (c ∷ s) (b ∷ n') s' e f = padded [] (c ∷ s) (b ∷ n') s' e
    by (b ∷ n) s [] [] e f = absurd (omega arith)
    by (b ∷ n) s [] (c ∷ s') e f = padded (b ∷ n) s [] (c ∷ s') e
    by (b ∷ n) s (b' ∷ n') s' e f = padded (b ∷ n) s (b' ∷ n') s' e

-- ---- KMAC: K, X, L and S; the ending byte is 04 always. KMACXOF: K, X and S

pub kmac-injective : (rate : ℕ) (k x : List ℕ) (l : ℕ) (s k' x' : List ℕ) (l' : ℕ) (s' : List ℕ) → kmac_string rate k x l s ≡ kmac_string rate k' x' l' s'
    → (k ≡ k') × (x ≡ x') × (l ≡ l') × (s ≡ s')
unfolding kmac_string kmac_message
kmac-injective rate k x l s k' x' l' s' e =
    let p = cshake-injective rate (kmac_message rate k x l) kmac_name s (kmac_message rate k' x' l') kmac_name s' e refl in
    let q = bytepad-string rate k k' (x ++ right_encode (8 * l)) (x' ++ right_encode (8 * l'))
    (sym (append_assoc (bytepad (encode_string k) rate) x (right_encode (8 * l))) ∙ p.0 ∙ append_assoc (bytepad (encode_string k') rate) x' (right_encode (8 * l'))) in
    let r = right_last (8 * l) (8 * l') x x' q.1 in
    let same : l ≡ l' = omega (arith, r.1) in
    (q.0, r.0, same, p.2)

pub kmacxof-injective : (rate : ℕ) (k x s k' x' s' : List ℕ) → kmac_string rate k x 0 s ≡ kmac_string rate k' x' 0 s' → (k ≡ k') × (x ≡ x') × (s ≡ s')
kmacxof-injective rate k x s k' x' s' e = let p = kmac-injective rate k x 0 s k' x' 0 s' e in (p.0, p.1, p.3)
