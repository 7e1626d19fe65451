-- Bytes XORed into lanes one by one are words XORed into them at once.
-- Assumes nothing.
use mathlib.Core.Path.{◌≡◌, refl, sym, ap, ◌∙◌}
use mathlib.Core.List.{List, [], ◌∷◌, ◌++◌}
use Prim.Native.Nat.{ℕ, zero, suc, ◌+◌, ◌-◌, ◌*◌, ◌/◌, ◌%◌, ◌^◌, ◌<◌, ◌≤◌}
use native.Mathlib.Nat.{zero-mul, zero-add, add-zero, add-suc, suc-add, add_comm, mul-one, mul-suc, mul_comm, mul_assoc, add-mul}
use native.Mathlib.Decide.{dec_lt}
use native.Mathlib.Omega.{arith}
use lib.ListN.{length, get_or, take, drop, set, length-set, length-take, length-drop, drop_of_length-le, take-append-drop, get_or-eq_default}
use lib.Seq.{drop-cons, set-get_or, set-set, set_out, get_or-set_same, take_all, take-add, length-take-le, get_or-take, get_or-drop, drop-drop}
use lib.Bits.{bit_xor, xor_zero_r, xor_comm, xor_shifted}
use lib.Pow.{shl_exact, shl_lt, pow-add, high, low}
use Rattle.keccak.specs.State.{word}
use Rattle.keccak.proofs.Bytes.{word_nil, word_cons}
use Rattle.keccak.proofs.Xor.{xor_assoc}
use Rattle.sponge.specs.Cut.{puts}
use Rattle.sponge.specs.Published.{xor_byte}

-- w XORed into lane q
abbrev pub xor_lane : List ℕ → ℕ → ℕ → List ℕ
xor_lane l q w = set l q (bit_xor (get_or l q 0) w)

-- what lies below bit k, and then what lies from it on, is the sum of both
xor_join : (k x lo b : ℕ) → lo < 2 ^ k → bit_xor (bit_xor x lo) (b * 2 ^ k) ≡ bit_xor x (lo + b * 2 ^ k)
xor_join k x lo b h = xor_assoc x lo (b * 2 ^ k) ∙ ap (bit_xor x) (xor_comm lo (b * 2 ^ k) ∙ xor_shifted b k lo h ∙ add_comm (b * 2 ^ k) lo)

-- (also past the last lane, where nothing is written)
lane_join : (l : List ℕ) (q k lo b : ℕ) → lo < 2 ^ k → xor_lane (xor_lane l q lo) q (b * 2 ^ k) ≡ xor_lane l q (lo + b * 2 ^ k)
lane_join l q k lo b h = by (dec_lt q (length l))
  where
    by : Dec (q < length l) → xor_lane (xor_lane l q lo) q (b * 2 ^ k) ≡ xor_lane l q (lo + b * 2 ^ k)
    by (yes g) = rw (set-set, get_or-set_same, xor_join k (get_or l q 0) lo b h)
    by (no g) = let o : length l ≤ q = omega arith in set-set l q _ _ ∙ set_out l q _ o ∙ sym (set_out l q _ o)

-- a byte at its lane and its position in the lane
byte_lane : (l : List ℕ) (q j b : ℕ) → j < 8 → xor_byte l (8 * q + j) b ≡ xor_lane l q (b * 2 ^ (8 * j))
unfolding xor_byte
byte_lane l q j b h =
    let e : (8 * q + j) / 8 ≡ q = omega arith in
    let f : (8 * q + j) % 8 ≡ j = omega arith in
    rw (e, f)

-- one byte more
pow-byte : (j : ℕ) → 2 ^ (8 * suc j) ≡ 256 * 2 ^ (8 * j)
pow-byte j = ap (λ (k : ℕ). 2 ^ k) (mul-suc 8 j) ∙ pow-add 2 (8 * j) 8 ∙ mul_comm (2 ^ (8 * j)) 256

byte_up : (n j : ℕ) → n * 2 ^ (8 * suc j) ≡ 256 * n * 2 ^ (8 * j)
byte_up n j = ap (λ (x : ℕ). n * x) (pow-byte j) ∙ sym (mul_assoc n 256 (2 ^ (8 * j))) ∙ ap (λ (x : ℕ). x * 2 ^ (8 * j)) (mul_comm n 256)

shift : (b n j : ℕ) → b * 2 ^ (8 * j) + n * 2 ^ (8 * suc j) ≡ (b + 256 * n) * 2 ^ (8 * j)
shift b n j = ap (λ (x : ℕ). b * 2 ^ (8 * j) + x) (byte_up n j) ∙ sym (add-mul b (256 * n) (2 ^ (8 * j)))

xor-length : (l : List ℕ) (i b : ℕ) → length (xor_byte l i b) ≡ length l
unfolding xor_byte
xor-length l i b = length-set l (i / 8) (bit_xor (get_or l (i / 8) 0) (b * 2 ^ (8 * (i % 8))))

-- bytes that stand in one lane
lane-bytes : (bs : List ℕ) (l : List ℕ) (q j : ℕ) → ((k : ℕ) → get_or bs k 0 < 256) → j + length bs ≤ 8
    → puts xor_byte l (8 * q + j) bs ≡ xor_lane l q (word bs * 2 ^ (8 * j))
lane-bytes [] l q j h g = sym (rw (word_nil, zero-mul, xor_zero_r, set-get_or))
lane-bytes (b ∷ bs) l q j h g =
    let hb : b < 2 ^ 8 = h 0 in
    let lo : b * 2 ^ (8 * j) < 2 ^ (8 * suc j) = rw (mul-suc 8 j, add_comm (8 * j) 8) (shl_lt 8 (8 * j) hb) in
    let e : suc (8 * q + j) ≡ 8 * q + suc j = sym (add-suc (8 * q) j) in
    ap (λ (n : ℕ). puts xor_byte (xor_byte l (8 * q + j) b) n bs) e
    ∙ lane-bytes bs (xor_byte l (8 * q + j) b) q (suc j) (λ k. h (suc k)) (omega arith)
    ∙ ap (λ (m : List ℕ). xor_lane m q (word bs * 2 ^ (8 * suc j))) (byte_lane l q j b (omega arith))
    ∙ lane_join l q (8 * suc j) (b * 2 ^ (8 * j)) (word bs) lo
    ∙ ap (xor_lane l q) (shift b (word bs) j ∙ ap (λ (n : ℕ). n * 2 ^ (8 * j)) (sym (word_cons b bs)))

-- as many lanes as before
pub puts-length : (bs l : List ℕ) (i : ℕ) → length (puts xor_byte l i bs) ≡ length l
puts-length [] l i = refl
puts-length (b ∷ bs) l i = puts-length bs (xor_byte l i b) (suc i) ∙ xor-length l i b

-- the bytes of two lists in a row
pub puts-append : (l : List ℕ) (p : ℕ) (s t : List ℕ) → puts xor_byte l p (s ++ t) ≡ puts xor_byte (puts xor_byte l p s) (p + length s) t
puts-append l p [] t = rw add-zero
puts-append l p (b ∷ s) t = puts-append (xor_byte l p b) (suc p) s t ∙ rw (suc-add, add-suc)

-- the bytes before h, and the others
pub puts_parts : (l : List ℕ) (p : ℕ) (s : List ℕ) (h : ℕ) → h ≤ length s → puts xor_byte (puts xor_byte l p (take h s)) (p + h) (drop h s) ≡ puts xor_byte l p s
puts_parts l p s h e =
    ap (λ (n : ℕ). puts xor_byte (puts xor_byte l p (take h s)) (p + n) (drop h s)) (sym (length-take-le h s e))
    ∙ sym (puts-append l p (take h s) (drop h s))
    ∙ ap (puts xor_byte l p) (take-append-drop h s)

-- n bytes of s from index i + k on, as a number
unfoldable pub digits_at : ℕ → List ℕ → ℕ → ℕ → ℕ
digits_at zero s i k = 0
digits_at (suc n) s i k = get_or s (i + k) 0 + 256 * digits_at n s i (suc k)

word-digits : (n : ℕ) (s : List ℕ) (i k : ℕ) → i + k + n ≤ length s → word (take n (drop (i + k) s)) ≡ digits_at n s i k
unfolding digits_at
word-digits zero s i k h = word_nil
word-digits (suc n) s i k h =
    ap (λ (t : List ℕ). word (take (suc n) t)) (drop-cons s (i + k) 0 (omega arith)) ∙ word_cons (get_or s (i + k) 0) (take n (drop (suc (i + k)) s))
    ∙ ap (λ (x : ℕ). get_or s (i + k) 0 + 256 * x) (ap (λ (m : ℕ). word (take n (drop m s))) (sym (add-suc i k)) ∙ word-digits n s i (suc k) (omega arith))

-- ---- n bytes from index i on: the sum of digits that the code makes of them

pub word_sum : (n : ℕ) (s : List ℕ) (i : ℕ) → i + n ≤ length s → digits_at n s i 0 ≡ word (take n (drop i s))
word_sum n s i h = sym (ap (λ (m : ℕ). word (take n (drop m s))) (sym (add-zero i)) ∙ word-digits n s i 0 (omega arith))

-- where they are the last ones
pub rest_sum : (n : ℕ) (s : List ℕ) (i : ℕ) → i + n ≡ length s → digits_at n s i 0 ≡ word (drop i s)
rest_sum n s i h = word_sum n s i (omega arith) ∙ ap word (take_all n (drop i s) (omega (arith, length-drop i s)))

-- the index of the first digit
pub first_digit : (s : List ℕ) (i : ℕ) → get_or s (i + 0) 0 ≡ get_or s i 0
first_digit s i = rw add-zero

-- ---- a number of two parts

word-append : (s t : List ℕ) → word (s ++ t) ≡ word s + word t * 2 ^ (8 * length s)
word-append [] t = sym (rw (word_nil, zero-add, mul-one))
word-append (b ∷ s) t =
    word_cons b (s ++ t) ∙ ap (λ (x : ℕ). b + 256 * x) (word-append s t)
    ∙ sym (rw (word_cons b s, byte_up (word t) (length s)) (omega arith))

pub word_parts : (s : List ℕ) (h : ℕ) → h ≤ length s → word (take h s) + word (drop h s) * 2 ^ (8 * h) ≡ word s
word_parts s h g =
    ap (λ (n : ℕ). word (take h s) + word (drop h s) * 2 ^ (8 * n)) (sym (length-take-le h s g))
    ∙ sym (word-append (take h s) (drop h s)) ∙ ap word (take-append-drop h s)

-- n bytes from index i on, and the next m
pub word_next : (s : List ℕ) (i n m : ℕ) → i + n ≤ length s
    → word (take n (drop i s)) + word (take m (drop (i + n) s)) * 2 ^ (8 * n) ≡ word (take (n + m) (drop i s))
word_next s i n m h =
    ap (λ (k : ℕ). word (take n (drop i s)) + word (take m (drop (i + n) s)) * 2 ^ (8 * k)) (sym (length-take-le n (drop i s) (omega (arith, length-drop i s))))
    ∙ sym (word-append (take n (drop i s)) (take m (drop (i + n) s)))
    ∙ ap (λ (t : List ℕ). word (take n (drop i s) ++ take m t)) (sym (drop-drop n i s))
    ∙ ap word (sym (take-add n m (drop i s)))

-- a number is below the power of its bytes
word_lt : (s : List ℕ) → ((k : ℕ) → get_or s k 0 < 256) → word s < 2 ^ (8 * length s)
word_lt [] h = rw word_nil (omega arith)
word_lt (b ∷ s) h =
    let t : word s < 2 ^ (8 * length s) = word_lt s (λ k. h (suc k)) in
    let hb : b < 256 = h 0 in
    rw (word_cons b s, pow-byte (length s)) (omega arith)

-- shifted left by j in a word of n bits, x * 2 ^ k + lo loses x, where k + j is n
shl_low : (w k j n x : ℕ) {lo : ℕ} → lo < 2 ^ k → w ≡ x * 2 ^ k + lo → k + j ≡ n → w * 2 ^ j % 2 ^ n ≡ lo * 2 ^ j
shl_low w k j n x {lo} h e g =
    let small : lo * 2 ^ j < 2 ^ n = rw g at (shl_lt k j h) in
    let up : x * 2 ^ k * 2 ^ j ≡ x * 2 ^ n = mul_assoc x (2 ^ k) (2 ^ j) ∙ ap (λ (i : ℕ). x * i) (sym (pow-add 2 k j) ∙ ap (λ (i : ℕ). 2 ^ i) g) in
    ap (λ (i : ℕ). i % 2 ^ n) (ap (λ (i : ℕ). i * 2 ^ j) e ∙ add-mul (x * 2 ^ k) lo (2 ^ j) ∙ ap (λ (i : ℕ). i + lo * 2 ^ j) up) ∙ low x n small

-- a part of bytes has bytes
pub part_bytes : (s : List ℕ) (i n : ℕ) → ((j : ℕ) → get_or s j 0 < 256) → (k : ℕ) → get_or (take n (drop i s)) k 0 < 256
part_bytes s i n h k = by (dec_lt k n)
  where
    by : Dec (k < n) → get_or (take n (drop i s)) k 0 < 256
    by (yes g) = rw (get_or-take n (drop i s) k 0 g, get_or-drop i s k 0) (h (i + k))
    by (no g) =
        let o : length (take n (drop i s)) ≤ k = rw length-take (omega arith) in
        rw (get_or-eq_default (take n (drop i s)) 0 {n = k} o) (omega arith)

-- bytes within one lane, shifted to their position in it: the machine's shift loses nothing
pub lane-shifted : (l : List ℕ) (p w : ℕ) (s : List ℕ) → ((k : ℕ) → get_or s k 0 < 256) → p % 8 + length s ≤ 8 → w ≡ word s
    → set l (p / 8) (bit_xor (get_or l (p / 8) 0) (w * 2 ^ (8 * (p % 8)) % 2 ^ 64)) ≡ puts xor_byte l p s
lane-shifted l p w s h g e =
    let at : 8 * (p / 8) + p % 8 ≡ p = omega arith in
    let small : w < 2 ^ (8 * length s) = rw e (word_lt s h) in
    ap (xor_lane l (p / 8)) (shl_exact (8 * length s) (8 * (p % 8)) 64 small (omega arith) ∙ ap (λ (n : ℕ). n * 2 ^ (8 * (p % 8))) e)
    ∙ sym (lane-bytes s l (p / 8) (p % 8) h g) ∙ ap (λ (n : ℕ). puts xor_byte l n s) at

-- bytes across two lanes: h of them stand in the first, the others from the start of the next on
two_lanes : (l : List ℕ) (q j h w : ℕ) (s : List ℕ) → ((k : ℕ) → get_or s k 0 < 256) → h + j ≡ 8 → h ≤ length s → length s ≤ 8 → w ≡ word s
    → xor_lane (xor_lane l q (w * 2 ^ (8 * j) % 2 ^ 64)) (q + 1) (w / 2 ^ (8 * h)) ≡ puts xor_byte l (8 * q + j) s
two_lanes l q j h w s hb a g m e =
    let n : length (take h s) ≡ h = length-take-le h s g in
    let small : word (take h s) < 2 ^ (8 * h) = rw n at (word_lt (take h s) (part_bytes s 0 h hb)) in
    let sum : w ≡ word (drop h s) * 2 ^ (8 * h) + word (take h s) = omega (arith, word_parts s h g) in
    let next : 8 * (q + 1) + 0 ≡ 8 * q + j + h = omega arith in
    ap (λ (x : ℕ). xor_lane (xor_lane l q x) (q + 1) (w / 2 ^ (8 * h))) (shl_low w (8 * h) (8 * j) 64 (word (drop h s)) small sum (omega arith))
    ∙ ap (λ (t : List ℕ). xor_lane t (q + 1) (w / 2 ^ (8 * h))) (sym (lane-bytes (take h s) l q j (part_bytes s 0 h hb) (omega arith)))
    ∙ ap (xor_lane (puts xor_byte l (8 * q + j) (take h s)) (q + 1)) (ap (λ (x : ℕ). x / 2 ^ (8 * h)) sum ∙ high (word (drop h s)) (8 * h) small ∙ sym (mul-one (word (drop h s))))
    ∙ sym (lane-bytes (drop h s) (puts xor_byte l (8 * q + j) (take h s)) (q + 1) 0 (λ k. rw (get_or-drop h s k 0) (hb (h + k))) (omega (arith, length-drop h s)))
    ∙ ap (λ (p : ℕ). puts xor_byte (puts xor_byte l (8 * q + j) (take h s)) p (drop h s)) next
    ∙ puts_parts l (8 * q + j) s h g

-- the same at byte p, where n is how far the machine shifts back
pub lanes-shifted : (l : List ℕ) (p n w : ℕ) (s : List ℕ) → ((k : ℕ) → get_or s k 0 < 256) → 8 ≤ p % 8 + length s → length s ≤ 8 → n + 8 * (p % 8) ≡ 64 → w ≡ word s
    → xor_lane (xor_lane l (p / 8) (w * 2 ^ (8 * (p % 8)) % 2 ^ 64)) (p / 8 + 1) (w / 2 ^ n) ≡ puts xor_byte l p s
lanes-shifted l p n w s hb g m f e =
    let at : 8 * (p / 8) + p % 8 ≡ p = omega arith in
    let k : n ≡ 8 * (8 - p % 8) = omega arith in
    ap (λ (i : ℕ). xor_lane (xor_lane l (p / 8) (w * 2 ^ (8 * (p % 8)) % 2 ^ 64)) (p / 8 + 1) (w / 2 ^ i)) k
    ∙ two_lanes l (p / 8) (p % 8) (8 - p % 8) w s hb (omega arith) (omega arith) m e
    ∙ ap (λ (i : ℕ). puts xor_byte l i s) at

-- the step of the loop over words
pub word-step : (l s : List ℕ) (q i : ℕ) → i + 8 ≤ length s → ((j : ℕ) → get_or s j 0 < 256)
    → puts xor_byte l (8 * q) (drop i s) ≡ puts xor_byte (xor_lane l q (word (take 8 (drop i s)))) (8 * (q + 1)) (drop (i + 8) s)
word-step l s q i h hb =
    let t : List ℕ = take 8 (drop i s) in
    let n : length t ≡ 8 = length-take-le 8 (drop i s) (simp length-drop (omega arith)) in
    let e : 8 * (q + 1) ≡ 8 * q + 8 = omega arith in
    sym (puts_parts l (8 * q) (drop i s) 8 (simp length-drop (omega arith)))
    ∙ ap (λ (m : List ℕ). puts xor_byte m (8 * q + 8) (drop 8 (drop i s)))
    (ap (λ (p : ℕ). puts xor_byte l p t) (sym (add-zero (8 * q))) ∙ lane-bytes t l q 0 (part_bytes s i 8 hb) (omega arith)
    ∙ ap (xor_lane l q) (mul-one (word t)))
    ∙ rw (e, drop-drop 8 i s)

-- the same where w is the q-th word, which goes into lane `first` + q
pub word_turn : (l s : List ℕ) (first q w : ℕ) → 8 * q + 8 ≤ length s → ((j : ℕ) → get_or s j 0 < 256) → w ≡ word (take 8 (drop (8 * q) s))
    → puts xor_byte (xor_lane l (first + q) w) (8 * (first + (q + 1))) (drop (8 * (q + 1)) s) ≡ puts xor_byte l (8 * (first + q)) (drop (8 * q) s)
word_turn l s first q w h hb e =
    let lane : 8 * (first + (q + 1)) ≡ 8 * (first + q + 1) = omega arith in
    let next : 8 * (q + 1) ≡ 8 * q + 8 = omega arith in
    ap (λ (n : ℕ). puts xor_byte (xor_lane l (first + q) w) n (drop (8 * (q + 1)) s)) lane
    ∙ ap (λ (n : ℕ). puts xor_byte (xor_lane l (first + q) w) (8 * (first + q + 1)) (drop n s)) next
    ∙ ap (λ (v : ℕ). puts xor_byte (xor_lane l (first + q) v) (8 * (first + q + 1)) (drop (8 * q + 8) s)) e
    ∙ sym (word-step l s (first + q) (8 * q) h hb)

-- the machine's shift of a byte within a word loses nothing
pub byte-shifted : (l : List ℕ) (p b w : ℕ) → w ≡ b → w < 256 → set l (p / 8) (bit_xor (get_or l (p / 8) 0) (w * 2 ^ (8 * (p % 8)) % 2 ^ 64)) ≡ xor_byte l p b
unfolding xor_byte
byte-shifted l p b w e h =
    ap (xor_lane l (p / 8)) (shl_exact 8 (8 * (p % 8)) 64 h (omega arith) ∙ ap (λ (n : ℕ). n * 2 ^ (8 * (p % 8))) e)

-- no bytes are left
pub puts_done : (l s : List ℕ) (p i : ℕ) → length s ≤ i → puts xor_byte l p (drop i s) ≡ l
puts_done l s p i h = ap (puts xor_byte l p) (drop_of_length-le s h)

-- the part of a slice from i to its end
pub rest_part : (s : List ℕ) (i : ℕ) → take (length s - i) (drop i s) ≡ drop i s
rest_part s i = take_all (length s - i) (drop i s) (omega (arith, length-drop i s))
