-- What a loop has written of a lent output: bytes of a state one by one, eight at once, and parts that were lent on.
-- Assumes nothing.
use mathlib.Core.Path.{◌≡◌, refl, sym, ap, ◌∙◌, subst}
use mathlib.Core.List.{List, [], ◌∷◌, ◌++◌, append_assoc}
use Prim.Native.Nat.{ℕ, zero, suc, ◌+◌, ◌-◌, ◌*◌, ◌/◌, ◌%◌, ◌^◌, ◌<◌, ◌≤◌}
use native.Mathlib.Nat.{zero-add, suc-add, add-suc, add-zero}
use native.Mathlib.Numerals.{add-one}
use native.Mathlib.Omega.{arith}
use lib.ListN.{length, get_or, take, drop, set, length-set, length-append, length-drop}
use lib.Seq.{take_all, length-take-le, take-suc-set, take_at, drop-drop, sets, sets-eq}
use Rattle.keccak.specs.State.{byte_at}
use Rattle.keccak.proofs.Bytes.{byte_of_lane}
use Rattle.sponge.specs.Published.{bytes_from}
use Rattle.sponge.specs.Words.{with_word}
use Rattle.sponge.proofs.Published.{length-bytes_from}

-- n bytes and then m more
pub bytes-add : (l : List ℕ) (p n m : ℕ) → bytes_from l p (n + m) ≡ bytes_from l p n ++ bytes_from l (p + n) m
bytes-add l p zero m = rw (zero-add, add-zero)
bytes-add l p (suc n) m = rw (suc-add n m, bytes-add l (suc p) n m, suc-add p n, add-suc p n)

-- one byte more, written behind the first i
pub write_step : (l out : List ℕ) (p i b : ℕ) → i < length out → b ≡ byte_at l (p + i) → take i out ≡ bytes_from l p i → take (i + 1) (set out i b) ≡ bytes_from l p (i + 1)
write_step l out p i b h e t =
    ap (λ (n : ℕ). take n (set out i b)) (add-one i)
    ∙ take-suc-set out i b h
    ∙ ap (λ (u : List ℕ). u ++ (b ∷ [])) t
    ∙ ap (λ (x : ℕ). bytes_from l p i ++ (x ∷ [])) e
    ∙ sym (bytes-add l p i 1)

-- byte j of the word at index i, written behind those before it
word_byte : (l out : List ℕ) (p q i j b : ℕ) → p + i ≡ 8 * q → j < 8 → i + j < length out → b ≡ get_or l q 0 / 2 ^ (8 * j) % 256 → take (i + j) out ≡ bytes_from l p (i + j)
    → take (i + suc j) (set out (i + j) b) ≡ bytes_from l p (i + suc j)
word_byte l out p q i j b e hj h eb t =
    let f : p + (i + j) ≡ 8 * q + j = omega arith in
    let k : i + j + 1 ≡ i + suc j = omega arith in
    subst (λ (n : ℕ). take n (set out (i + j) b) ≡ bytes_from l p n) k (write_step l out p (i + j) b h (eb ∙ sym (byte_of_lane l q j hj) ∙ ap (byte_at l) (sym f)) t)

-- the step of the loop that writes words
pub write_word : (l out : List ℕ) (p q i w : ℕ) → i + 8 ≤ length out → p + i ≡ 8 * q → w ≡ get_or l q 0 → take i out ≡ bytes_from l p i
    → take (i + 8) (with_word out i w) ≡ bytes_from l p (i + 8)
unfolding with_word
write_word l out p q i w h e ew t =
    let z : i ≡ i + 0 = omega arith in
    let o0 = out in
    let o1 = set o0 i (w % 256) in
    let o2 = set o1 (i + 1) (w / 2 ^ 8 % 256) in
    let o3 = set o2 (i + 2) (w / 2 ^ 16 % 256) in
    let o4 = set o3 (i + 3) (w / 2 ^ 24 % 256) in
    let o5 = set o4 (i + 4) (w / 2 ^ 32 % 256) in
    let o6 = set o5 (i + 5) (w / 2 ^ 40 % 256) in
    let o7 = set o6 (i + 6) (w / 2 ^ 48 % 256) in
    let byte : (n : ℕ) → w / 2 ^ n % 256 ≡ get_or l q 0 / 2 ^ n % 256 = λ n. ap (λ (x : ℕ). x / 2 ^ n % 256) ew in
    let t0 : take (i + 0) o0 ≡ bytes_from l p (i + 0) = subst (λ (n : ℕ). take n o0 ≡ bytes_from l p n) z t in
    let e0 : w % 256 ≡ get_or l q 0 / 2 ^ (8 * 0) % 256 = omega (arith, ew) in
    let t1 : take (i + 1) o1 ≡ bytes_from l p (i + 1) = subst (λ (n : ℕ). take (i + 1) (set o0 n (w % 256)) ≡ bytes_from l p (i + 1)) (sym z) (word_byte l o0 p q i 0 (w % 256) e (omega arith) (omega arith) e0 t0) in
    let t2 : take (i + 2) o2 ≡ bytes_from l p (i + 2) = word_byte l o1 p q i 1 (w / 2 ^ 8 % 256) e (omega arith) (simp length-set (omega arith)) (byte 8) t1 in
    let t3 : take (i + 3) o3 ≡ bytes_from l p (i + 3) = word_byte l o2 p q i 2 (w / 2 ^ 16 % 256) e (omega arith) (simp length-set (omega arith)) (byte 16) t2 in
    let t4 : take (i + 4) o4 ≡ bytes_from l p (i + 4) = word_byte l o3 p q i 3 (w / 2 ^ 24 % 256) e (omega arith) (simp length-set (omega arith)) (byte 24) t3 in
    let t5 : take (i + 5) o5 ≡ bytes_from l p (i + 5) = word_byte l o4 p q i 4 (w / 2 ^ 32 % 256) e (omega arith) (simp length-set (omega arith)) (byte 32) t4 in
    let t6 : take (i + 6) o6 ≡ bytes_from l p (i + 6) = word_byte l o5 p q i 5 (w / 2 ^ 40 % 256) e (omega arith) (simp length-set (omega arith)) (byte 40) t5 in
    let t7 : take (i + 7) o7 ≡ bytes_from l p (i + 7) = word_byte l o6 p q i 6 (w / 2 ^ 48 % 256) e (omega arith) (simp length-set (omega arith)) (byte 48) t6 in
    word_byte l o7 p q i 7 (w / 2 ^ 56 % 256) e (omega arith) (simp length-set (omega arith)) (byte 56) t7

-- the same where w is the k-th word written
pub write_next_word : (l out o : List ℕ) (p q k w : ℕ) → 8 * k + 8 ≤ length out → p + 8 * k ≡ 8 * q → w ≡ get_or l q 0 → o ≡ with_word out (8 * k) w
    → take (8 * k) out ≡ bytes_from l p (8 * k) → take (8 * (k + 1)) o ≡ bytes_from l p (8 * (k + 1))
write_next_word l out o p q k w h e ew eo t =
    let next : 8 * k + 8 ≡ 8 * (k + 1) = omega arith in
    ap (take (8 * (k + 1))) eo
    ∙ subst (λ (n : ℕ). take n (with_word out (8 * k) w) ≡ bytes_from l p n) next (write_word l out p q (8 * k) w h e ew t)

pub length-with_word : (s : List ℕ) (i w : ℕ) → length (with_word s i w) ≡ length s
unfolding with_word
length-with_word s i w = simp length-set

-- the eight bytes put at once where eight bytes stood
pub with_word_parts : (s ys : List ℕ) (i k w : ℕ) → i + 8 ≤ length s → k ≡ 8
    → ys ≡ w % 256 ∷ w / 2 ^ 8 % 256 ∷ w / 2 ^ 16 % 256 ∷ w / 2 ^ 24 % 256 ∷ w / 2 ^ 32 % 256 ∷ w / 2 ^ 40 % 256 ∷ w / 2 ^ 48 % 256 ∷ w / 2 ^ 56 % 256 ∷ []
    → take i s ++ (ys ++ drop k (drop i s)) ≡ with_word s i w
unfolding with_word
with_word_parts s ys i k w h ek ey =
    let vs : List ℕ = w % 256 ∷ w / 2 ^ 8 % 256 ∷ w / 2 ^ 16 % 256 ∷ w / 2 ^ 24 % 256 ∷ w / 2 ^ 32 % 256 ∷ w / 2 ^ 40 % 256 ∷ w / 2 ^ 48 % 256 ∷ w / 2 ^ 56 % 256 ∷ [] in
    let e1 : i + 1 ≡ suc i = omega arith in
    let e2 : i + 2 ≡ suc (suc i) = omega arith in
    let e3 : i + 3 ≡ suc (suc (suc i)) = omega arith in
    let e4 : i + 4 ≡ suc (suc (suc (suc i))) = omega arith in
    let e5 : i + 5 ≡ suc (suc (suc (suc (suc i)))) = omega arith in
    let e6 : i + 6 ≡ suc (suc (suc (suc (suc (suc i))))) = omega arith in
    let e7 : i + 7 ≡ suc (suc (suc (suc (suc (suc (suc i)))))) = omega arith in
    let whole : sets s i vs ≡ take i s ++ vs ++ drop (i + 8) s = sets-eq vs s i h in
    let same : sets s i vs ≡ with_word s i w = rw (e1, e2, e3, e4, e5, e6, e7) refl in
    ap (λ (u : List ℕ). take i s ++ (u ++ drop k (drop i s))) ey
    ∙ ap (λ (u : List ℕ). take i s ++ (vs ++ u)) (ap (λ (n : ℕ). drop n (drop i s)) ek ∙ drop-drop 8 i s)
    ∙ sym (append_assoc (take i s) vs (drop (i + 8) s))
    ∙ sym whole
    ∙ same

-- all of it is written
pub write_all : (f : ℕ → List ℕ) (out : List ℕ) (i n : ℕ) → i ≤ length out → length out ≤ i → length out ≡ n → take i out ≡ f i → out ≡ f n
write_all f out i n h g e t =
    let k : i ≡ n = omega arith in
    sym (take_all i out g) ∙ t ∙ ap f k

-- a part that was lent as `&mut` from i on, k elements, came back as ys: what is written by now
pub put_part : (f : ℕ → List ℕ) (out ys zs : List ℕ) (i k : ℕ) → i + k ≤ length out → take i out ≡ f i → ys ≡ zs → length zs ≡ k → f i ++ zs ≡ f (i + k)
    → take (i + k) (take i out ++ (ys ++ drop k (drop i out))) ≡ f (i + k)
put_part f out ys zs i k h t e n g =
    let m : length (take i out ++ ys) ≡ i + k = omega (arith, length-append (take i out) ys, length-take-le i out (omega arith), ap length e) in
    ap (λ (u : List ℕ). take (i + k) u) (sym (append_assoc (take i out) ys (drop k (drop i out))))
    ∙ take_at (take i out ++ ys) (drop k (drop i out)) (i + k) m
    ∙ ap (λ (u : List ℕ). u ++ ys) t
    ∙ ap (λ (u : List ℕ). f i ++ u) e
    ∙ g

-- the part is all the rest
pub put_rest : (l out ys : List ℕ) (p r i m n : ℕ) → i ≤ length out → take i out ≡ bytes_from l p i → ys ≡ bytes_from l r m → r ≡ p + i → m ≡ length out - i → length out ≡ n
    → take i out ++ (ys ++ drop (length out - i) (drop i out)) ≡ bytes_from l p n
put_rest l out ys p r i m n h t e er em en =
    let k = length out - i in
    let d = drop k (drop i out) in
    let f : i + k ≡ n = omega arith in
    let g : length (take i out ++ (ys ++ d)) ≤ i + k = omega (arith, length-append (take i out) (ys ++ d), length-append ys d, length-take-le i out h, ap length e, length-bytes_from l r m, length-drop k (drop i out), length-drop i out) in
    sym (take_all (i + k) (take i out ++ (ys ++ d)) g)
    ∙ put_part (bytes_from l p) out ys (bytes_from l (p + i) k) i k (omega arith) t
    (e ∙ ap (λ (x : ℕ). bytes_from l x m) er ∙ ap (bytes_from l (p + i)) em) (length-bytes_from l (p + i) k) (sym (bytes-add l p i k))
    ∙ ap (bytes_from l p) f
