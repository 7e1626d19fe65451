-- The blocks that a start absorbs before the message: how many there are, by the lengths of its strings; that they grow by at most one with a byte
-- of a string; so that every number between the least and the most is that of a start.
-- Assumes nothing.
use mathlib.Core.Path.{◌≡◌, refl, sym, ap, ap₂, ◌∙◌}
use mathlib.Core.List.{List, [], ◌∷◌, ◌++◌}
use mathlib.Core.Bool.{Bool, false, cond}
use Prim.Native.Nat.{ℕ, zero, suc, ◌+◌, ◌-◌, ◌*◌, ◌/◌, ◌%◌, ◌^◌, ◌≤◌, ◌<◌, zero-le}
use native.Mathlib.Nat.{le_refl, add-mul, add-div_right, le-div_iff_mul-le, div-lt_iff_lt-mul, div-mul-le_self, lt-div-mul-add}
use native.Mathlib.Decide.{dec_le}
use native.Mathlib.Omega.{arith}
use lib.ListN.{length, replicate, length-append, length-replicate}
use Rattle.sponge.specs.Callable.{Bytes, Slice}
use Rattle.sponge.specs.Cut.{ceil}
use Rattle.sponge.specs.Digits.{digits}
use Rattle.sponge.proofs.Digits.{digits_short}
use Rattle.sp800_185.specs.Published.{one_at_least, bytes_of, left_encode, right_encode, encode_string, bytepad, both_empty, cshake_prefix, kmac_name}
use Rattle.sp800_185.specs.Start.{string_limit, key_limit, kmac_prefix, encoded_length, padded_blocks, cshake_blocks, kmac_blocks}

-- ---- the bytes of a number: a larger one has as many or more, and one more at the most up to 256 times it

digits_more : (f x g y : ℕ) → x ≤ y → y ≤ g → length (digits f x) ≤ length (digits g y)
digits_more zero x g y h k = zero-le
digits_more (suc f) zero g y h k = zero-le
digits_more (suc f) (suc x) zero y h k = absurd (omega arith)
digits_more (suc f) (suc x) (suc g) zero h k = absurd (omega arith)
digits_more (suc f) (suc x) (suc g) (suc y) h k =
    let less = digits_more f (suc x / 256) g (suc y / 256) (omega arith) (omega arith) in
    rw (length-append (digits f (suc x / 256)) (suc x % 256 ∷ []), length-append (digits g (suc y / 256)) (suc y % 256 ∷ [])) (omega arith)

digits_next : (f x g y : ℕ) → x ≤ f → y / 256 ≤ x → length (digits g y) ≤ suc (length (digits f x))
digits_next f x zero y h k = zero-le
digits_next f x (suc g) zero h k = zero-le
digits_next f x (suc g) (suc y) h k =
    let less = digits_more g (suc y / 256) f x k h in
    rw (length-append (digits g (suc y / 256)) (suc y % 256 ∷ [])) (omega arith)

at_least : (s : List ℕ) → (length s ≤ length (one_at_least s)) × (1 ≤ length (one_at_least s)) × (length (one_at_least s) ≤ 1 + (length s - 1))
at_least [] = (omega arith, omega arith, omega arith)
at_least (b ∷ s) = (omega arith, omega arith, omega arith)

-- ---- the bytes of the encodings

pub left_least : (x : ℕ) → 2 ≤ length (left_encode x)
unfolding left_encode
left_least x = let a = at_least (digits x x) in omega arith

left_more : (x y : ℕ) → x ≤ y → length (left_encode x) ≤ length (left_encode y)
unfolding left_encode
left_more x y h =
    let m = digits_more x x y y h (le_refl y) in
    let a = at_least (digits x x) in
    let b = at_least (digits y y) in
    omega arith

-- of a number below 256 ^ k, k > 0
pub left_most : (x k : ℕ) → x < 256 ^ k → 0 < k → length (left_encode x) ≤ suc k
unfolding left_encode
left_most x k h p = let m = digits_short x x k h in let a = at_least (digits x x) in omega arith

-- right_encode has as many as left_encode
pub right_is : (x : ℕ) → length (right_encode x) ≡ length (left_encode x)
unfolding left_encode right_encode
right_is x = length-append (bytes_of x) (length (bytes_of x) ∷ []) ∙ omega arith

pub right_least : (x : ℕ) → 2 ≤ length (right_encode x)
right_least x = rw right_is (left_least x)

-- what says an output of up to 4294967295 bytes
pub right_most : (l : ℕ) → l ≤ 4294967295 → length (right_encode (8 * l)) ≤ 6
right_most l h = rw right_is (left_most (8 * l) 5 (omega arith) (omega arith))

pub string-length : (s : List ℕ) → length (encode_string s) ≡ encoded_length (length s)
unfolding encode_string
string-length s = length-append (left_encode (8 * length s)) s

encoded_more : (m n : ℕ) → m ≤ n → encoded_length m ≤ encoded_length n
encoded_more m n h = let a = left_more (8 * m) (8 * n) (omega arith) in omega arith

-- a byte more in the string is at most two more when it is encoded
encoded_next : (n : ℕ) → encoded_length (suc n) ≤ 2 + encoded_length n
unfolding left_encode
encoded_next n =
    let d = digits_next (8 * n) (8 * n) (8 * suc n) (8 * suc n) (le_refl (8 * n)) (omega arith) in
    let a = at_least (digits (8 * n) (8 * n)) in
    let b = at_least (digits (8 * suc n) (8 * suc n)) in
    omega arith

-- ---- the blocks that hold a number of bytes

module _ (r : ℕ) (pos : 0 < r) where
  ceil_holds : (n : ℕ) → n ≤ ceil r n * r
  ceil_holds n = let a = lt-div-mul-add {a = n + (r - 1)} pos in omega arith

  ceil_more : (m n : ℕ) → m ≤ n → ceil r m ≤ ceil r n
  ceil_more m n h = (le-div_iff_mul-le pos).1 (let a = div-mul-le_self (m + (r - 1)) r in omega arith)

  ceil_next : (m n : ℕ) → n ≤ m + r → ceil r n ≤ suc (ceil r m)
  ceil_next m n h =
      let a : m + r + (r - 1) ≡ m + (r - 1) + r = omega arith in
      let b : (m + r + (r - 1)) / r ≡ ceil r m + 1 = rw a (add-div_right (m + (r - 1)) pos) in
      let c = ceil_more n (m + r) h in
      omega arith

  ceil_one : (n : ℕ) → n ≤ r → ceil r n < 2
  ceil_one n h = (div-lt_iff_lt-mul pos).1 (omega arith)

  ceil-least : (n : ℕ) → 0 < n → 1 ≤ ceil r n
  ceil-least n h = (le-div_iff_mul-le pos).1 (omega arith)

-- ---- bytepad fills its blocks

module _ (rate : ℕ) (pos : 0 < rate) where
  pub bytepad-length : (s : List ℕ) → length (bytepad s rate) ≡ padded_blocks rate (length s) * rate
  unfolding bytepad
  bytepad-length s =
      let t : List ℕ = left_encode rate ++ s in
      let n : ℕ = ceil rate (length t) * rate in
      let holds = ceil_holds rate pos (length t) in
      length-append t (replicate (n - length t) 0) ∙ ap (λ (i : ℕ). length t + i) (length-replicate {A = ℕ} (n - length t) 0) ∙ omega arith
      ∙ ap (λ (i : ℕ). ceil rate i * rate) (length-append (left_encode rate) s)

  pub padded-least : (n : ℕ) → 1 ≤ padded_blocks rate n
  padded-least n = ceil-least rate pos (length (left_encode rate) + n) (let a = left_least rate in omega arith)

  padded_more : (m n : ℕ) → m ≤ n → padded_blocks rate m ≤ padded_blocks rate n
  padded_more m n h = ceil_more rate pos (length (left_encode rate) + m) (length (left_encode rate) + n) (omega arith)

  padded_next : (m n : ℕ) → n ≤ rate + m → padded_blocks rate n ≤ suc (padded_blocks rate m)
  padded_next m n h = ceil_next rate pos (length (left_encode rate) + m) (length (left_encode rate) + n) (omega arith)

  -- ---- the blocks before the message are those of the lengths

  pub cshake-length : (n s : List ℕ) → both_empty n s ≡ false → length (cshake_prefix rate n s) ≡ cshake_blocks rate (length n) (length s) * rate
  unfolding cshake_prefix
  cshake-length n s e =
      ap (λ (b : Bool). length (cond b [] (bytepad (encode_string n ++ encode_string s) rate))) e ∙ bytepad-length (encode_string n ++ encode_string s)
      ∙ ap (λ (i : ℕ). padded_blocks rate i * rate) (length-append (encode_string n) (encode_string s) ∙ ap₂ (λ (i j : ℕ). i + j) (string-length n) (string-length s))

  pub kmac-length : (k s : List ℕ) → length (kmac_prefix rate k s) ≡ kmac_blocks rate (length k) (length s) * rate
  unfolding kmac_prefix
  kmac-length k s =
      length-append (cshake_prefix rate kmac_name s) (bytepad (encode_string k) rate)
      ∙ ap₂ (λ (i j : ℕ). i + j) (cshake-length kmac_name s refl) (bytepad-length (encode_string k) ∙ ap (λ (i : ℕ). padded_blocks rate i * rate) (string-length k))
      ∙ sym (add-mul (padded_blocks rate (encoded_length 4 + encoded_length (length s))) (padded_blocks rate (encoded_length (length k))) rate)

  -- ---- between the least and the most

  pub cshake_blocks-least : (n s : ℕ) → 1 ≤ cshake_blocks rate n s
  cshake_blocks-least n s = padded-least (encoded_length n + encoded_length s)

  pub cshake_blocks-most : (n s : ℕ) → n ≤ string_limit → s ≤ string_limit → cshake_blocks rate n s ≤ cshake_blocks rate string_limit string_limit
  cshake_blocks-most n s h k =
      let a = encoded_more n string_limit h in
      let b = encoded_more s string_limit k in
      padded_more (encoded_length n + encoded_length s) (encoded_length string_limit + encoded_length string_limit) (omega arith)

  pub kmac_blocks-least : (k s : ℕ) → 2 ≤ kmac_blocks rate k s
  kmac_blocks-least k s = let a = padded-least (encoded_length 4 + encoded_length s) in let b = padded-least (encoded_length k) in omega arith

  pub kmac_blocks-most : (k s : ℕ) → k ≤ key_limit → s ≤ string_limit → kmac_blocks rate k s ≤ kmac_blocks rate key_limit string_limit
  kmac_blocks-most k s h l =
      let a = encoded_more s string_limit l in
      let b = padded_more (encoded_length 4 + encoded_length s) (encoded_length 4 + encoded_length string_limit) (omega arith) in
      let c = padded_more (encoded_length k) (encoded_length key_limit) (encoded_more k key_limit h) in
      omega arith

-- ---- numbers that grow by at most one a step take every value from the first to the last

pub record Between (f : ℕ → ℕ) (k b : ℕ) : Type 0 where
  pub at : ℕ
  pub within : at ≤ k
  pub is : f at ≡ b

pub between : (f : ℕ → ℕ) → ((i : ℕ) → f (suc i) ≤ suc (f i)) → (k b : ℕ) → f 0 ≤ b → b ≤ f k → Between f k b
between f next zero b l h = record { at = 0; within = zero-le; is = omega arith }
between f next (suc k) b l h = by (dec_le b (f k)) (between f next k b l)
  where
    by : Dec (b ≤ f k) → (b ≤ f k → Between f k b) → Between f (suc k) b
    by (yes le) before = let g = before le in record { at = g.at; within = omega arith; is = g.is }
    by (no gt) before = let n = next k in record { at = suc k; within = le_refl (suc k); is = omega arith }

-- of two counts: the second first, from 0 up, then the first with the second at its last
pub record BetweenTwo (f : ℕ → ℕ → ℕ) (k m b : ℕ) : Type 0 where
  pub first : ℕ
  pub second : ℕ
  pub first_within : first ≤ k
  pub second-within : second ≤ m
  pub is : f first second ≡ b

pub between_two : (f : ℕ → ℕ → ℕ) → ((i j : ℕ) → f (suc i) j ≤ suc (f i j)) → ((i j : ℕ) → f i (suc j) ≤ suc (f i j))
    → (k m b : ℕ) → f 0 0 ≤ b → b ≤ f k m → BetweenTwo f k m b
between_two f next-first next-second k m b l h = by (dec_le b (f 0 m))
  where
    by : Dec (b ≤ f 0 m) → BetweenTwo f k m b
    by (yes le) =
        let g = between (f 0) (next-second 0) m b l le in
        record { first = 0; second = g.at; first_within = zero-le; second-within = g.within; is = g.is }
    by (no gt) =
        let g = between (λ (i : ℕ). f i m) (λ (i : ℕ). next-first i m) k b (omega arith) h in
        record { first = g.at; second = m; first_within = g.within; second-within = le_refl m; is = g.is }

-- ---- so every number of blocks in the range is that of a start

pub record CshakeStart (rate b : ℕ) : Type 0 where
  pub n : List ℕ
  pub s : List ℕ
  pub n_slice : Slice n
  pub s_slice : Slice s
  pub n_fits : length n ≤ string_limit
  pub s_fits : length s ≤ string_limit
  pub not_empty : both_empty n s ≡ false
  pub blocks_are : cshake_blocks rate (length n) (length s) ≡ b

pub record KmacStart (rate b : ℕ) : Type 0 where
  pub k : List ℕ
  pub s : List ℕ
  pub k_slice : Slice k
  pub s_slice : Slice s
  pub k_fits : length k ≤ key_limit
  pub s_fits : length s ≤ string_limit
  pub blocks_are : kmac_blocks rate (length k) (length s) ≡ b

zeros_are : (n : ℕ) → Bytes (replicate n 0)
zeros_are zero = tt
zeros_are (suc n) = (omega arith, zeros_are n)

zeros_slice : (n : ℕ) → n < 2 ^ 63 → Slice (replicate n 0)
zeros_slice n l = (zeros_are n, rw (length-replicate {A = ℕ} n 0) l)

some_second : (n : List ℕ) (c : ℕ) (s : List ℕ) → both_empty n (c ∷ s) ≡ false
some_second [] c s = refl
some_second (b ∷ n) c s = refl

module _ (rate : ℕ) (lo : 10 ≤ rate) (hi : rate < 256) where
  pos : 0 < rate
  pos = omega arith

  rate_encoded : length (left_encode rate) ≤ 2
  rate_encoded = left_most rate 1 (omega arith) (omega arith)

  padded_one : (n : ℕ) → n ≤ 8 → padded_blocks rate n ≤ 1
  padded_one n h = let l = rate_encoded in let c = ceil_one rate pos (length (left_encode rate) + n) (omega arith) in omega arith

  -- N of i zero bytes, and S of suc j
  cshake_two : (b : ℕ) → 1 ≤ b → b ≤ cshake_blocks rate string_limit string_limit → BetweenTwo (λ (i j : ℕ). cshake_blocks rate i (suc j)) string_limit (string_limit - 1) b
  unfolding left_encode
  cshake_two b l h =
      between_two (λ (i j : ℕ). cshake_blocks rate i (suc j))
      (λ (i j : ℕ). let e = encoded_next i in padded_next rate pos (encoded_length i + encoded_length (suc j)) (encoded_length (suc i) + encoded_length (suc j)) (omega arith))
      (λ (i j : ℕ). let e = encoded_next (suc j) in padded_next rate pos (encoded_length i + encoded_length (suc j)) (encoded_length i + encoded_length (suc (suc j))) (omega arith))
      string_limit (string_limit - 1) b (let o = padded_one (encoded_length 0 + encoded_length 1) (omega arith) in omega arith) h

  pub cshake_start_lem : (b : ℕ) → 1 ≤ b → b ≤ cshake_blocks rate string_limit string_limit → CshakeStart rate b
  cshake_start_lem b l h =
      let g = cshake_two b l h in
      let i : ℕ = g.first in
      let j : ℕ = suc g.second in
      let m : i ≤ string_limit = g.first_within in
      let n : j ≤ string_limit = omega arith in
      record {
        n = replicate i 0;
        s = replicate j 0;
        n_slice = zeros_slice i (omega arith);
        s_slice = zeros_slice j (omega arith);
        n_fits = rw (length-replicate {A = ℕ} i 0) m;
        s_fits = rw (length-replicate {A = ℕ} j 0) n;
        not_empty = some_second (replicate i 0) 0 (replicate g.second 0);
        blocks_are = ap₂ (cshake_blocks rate) (length-replicate {A = ℕ} i 0) (length-replicate {A = ℕ} j 0) ∙ g.is;
      }

  -- K of i zero bytes, and S of j
  kmac_two : (b : ℕ) → 2 ≤ b → b ≤ kmac_blocks rate key_limit string_limit → BetweenTwo (kmac_blocks rate) key_limit string_limit b
  unfolding left_encode
  kmac_two b l h =
      between_two (kmac_blocks rate)
      (λ (i j : ℕ). let e = encoded_next i in let p = padded_next rate pos (encoded_length i) (encoded_length (suc i)) (omega arith) in omega arith)
      (λ (i j : ℕ). let e = encoded_next j in let p = padded_next rate pos (encoded_length 4 + encoded_length j) (encoded_length 4 + encoded_length (suc j)) (omega arith) in omega arith)
      key_limit string_limit b
      (let o = padded_one (encoded_length 4 + encoded_length 0) (omega arith) in let p = padded_one (encoded_length 0) (omega arith) in omega arith)
      h

  pub kmac_start_lem : (b : ℕ) → 2 ≤ b → b ≤ kmac_blocks rate key_limit string_limit → KmacStart rate b
  kmac_start_lem b l h =
      let g = kmac_two b l h in
      let i : ℕ = g.first in
      let j : ℕ = g.second in
      let m : i ≤ key_limit = g.first_within in
      let n : j ≤ string_limit = g.second-within in
      record {
        k = replicate i 0;
        s = replicate j 0;
        k_slice = zeros_slice i (omega arith);
        s_slice = zeros_slice j (omega arith);
        k_fits = rw (length-replicate {A = ℕ} i 0) m;
        s_fits = rw (length-replicate {A = ℕ} j 0) n;
        blocks_are = ap₂ (kmac_blocks rate) (length-replicate {A = ℕ} i 0) (length-replicate {A = ℕ} j 0) ∙ g.is;
      }

-- ---- the most blocks, at the two rates

pub cshake128_blocks_most : cshake_blocks 168 string_limit string_limit ≡ 199729
unfolding left_encode
cshake128_blocks_most = refl

pub cshake256_blocks_most : cshake_blocks 136 string_limit string_limit ≡ 246724
unfolding left_encode
cshake256_blocks_most = refl

-- 99865 of the name and S, and 102261127 of the key
pub kmac128_blocks_most : kmac_blocks 168 key_limit string_limit ≡ 102360992
unfolding left_encode
kmac128_blocks_most = refl

-- 123362 and 126322568
pub kmac256_blocks_most : kmac_blocks 136 key_limit string_limit ≡ 126445930
unfolding left_encode
kmac256_blocks_most = refl
