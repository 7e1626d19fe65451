-- Four strings in a row, words of them in four states, and the cases of the calls on four states.
-- Assumes nothing.
use mathlib.Core.Path.{◌≡◌, refl, sym, ap, ◌∙◌, subst}
use mathlib.Core.List.{List, [], ◌∷◌}
use mathlib.Core.Bool.{Bool, true, false, cond, and-eq-true_iff}
use Prim.Native.Nat.{ℕ, zero, suc, ◌+◌, ◌-◌, ◌*◌, ◌/◌, ◌%◌, ◌<◌, ◌≤◌}
use native.Mathlib.Nat.{zero-add, suc-add, add_assoc}
use native.Mathlib.Omega.{arith}
use borrow.Author.Tests.{eq-eqb, ne_eqb, eqb-true, le-leb, lt-leb, leb-true, lt-ltb, le-ltb, ltb-true}
use lib.Bits.{bit_xor}
use lib.Dec.{eqb, leb, ltb}
use lib.ListN.{length, get_or, set, take, drop, length-drop}
use lib.Seq.{length-take-le, drop-drop, take-take, take-nil}
use Rattle.keccak.specs.State.{word}
use Rattle.abreast.specs.Four.{state_at, states_status}
use Rattle.abreast.specs.Inside.{One, Each}
use Rattle.abreast.proofs.Four.{one_xor, upto_none, upto_one, upto_all, each_is, state-length, length-interleaved, state-interleaved}
use Rattle.sponge.specs.Cut.{puts}
use Rattle.sponge.specs.Published.{xor_byte, bytes_from}
use Rattle.sponge.specs.Status.{done, bad_states, unreachable}
use Rattle.sponge.specs.Four.{string_at, whole_words, xor_status, xored_four, read_status, read_output}
use Rattle.sponge.proofs.FirstStatus.{first_zero}
use Rattle.sponge.proofs.Lent.{lent-refused, lent_done}
use Rattle.sponge.proofs.Words.{xor_lane, word-step, puts_done, puts-length, part_bytes}

-- ---- a part of a string

drop-take : (m n : ℕ) (l : List ℕ) → drop m (take (m + n) l) ≡ take n (drop m l)
drop-take zero n l = ap (λ (k : ℕ). take k l) (zero-add n)
drop-take (suc m) n [] = ap (λ (l : List ℕ). drop (suc m) l) (take-nil (suc m + n)) ∙ sym (take-nil n)
drop-take (suc m) n (x ∷ l) = ap (λ (k : ℕ). drop (suc m) (take k (x ∷ l))) (suc-add m n) ∙ drop-take m n l

-- n elements from index m on of the c elements from index b on
pub part_of : (s : List ℕ) (b c m n : ℕ) → m + n ≤ c → take n (drop (b + m) s) ≡ take n (drop m (take c (drop b s)))
part_of s b c m n h =
    let d : ℕ = c - m in
    let e : m + d ≡ c = omega arith in
    let g : n ≤ d = omega arith in
    sym
    (ap (λ (k : ℕ). take n (drop m (take k (drop b s)))) (sym e)
    ∙ ap (λ (l : List ℕ). take n l) (drop-take m d (drop b s))
    ∙ take-take n d (drop m (drop b s)) g
    ∙ ap (λ (l : List ℕ). take n l) (drop-drop m b s))

pub string_is : (k : ℕ) (s : List ℕ) → string_at k s ≡ take (length s / 4) (drop (length s / 4 * k) s)
unfolding string_at
string_is k s = refl

pub string_part : (s : List ℕ) (k m n : ℕ) → m + n ≤ length s / 4 → take n (drop (length s / 4 * k + m) s) ≡ take n (drop m (string_at k s))
unfolding string_at
string_part s k m n h = part_of s (length s / 4 * k) (length s / 4) m n h

-- string k ends within four of them
string-end : (each k : ℕ) → k < 4 → each * k + each ≤ 4 * each
string-end each zero h = omega arith
string-end each (suc zero) h = omega arith
string-end each (suc (suc zero)) h = omega arith
string-end each (suc (suc (suc zero))) h = omega arith
string-end each (suc (suc (suc (suc k)))) h = absurd (omega arith)

-- ---- a word into each state

-- w, which is v, XORed into word x, which is lane q of state j
pub one_word : (j q x w v : ℕ) (s : List ℕ) → j < 4 → q < 25 → length s ≡ 100 → x ≡ 4 * q + j → w ≡ v → One j (λ l. xor_lane l q v) s (set s x (bit_xor (get_or s x 0) w))
one_word j q x w v s hj hq hs ex ew =
    subst (λ (i : ℕ). One j (λ l. xor_lane l q v) s (set s i (bit_xor (get_or s i 0) w))) (sym ex)
    (subst (λ (y : ℕ). One j (λ l. xor_lane l q y) s (set s (4 * q + j) (bit_xor (get_or s (4 * q + j) 0) w))) ew (one_xor j q w s hj hq hs))

-- a step of each state, one after the other
pub each_four : (f : ℕ → List ℕ → List ℕ) (s t u v w : List ℕ) → length s ≡ 100 → One 0 (f 0) s t → One 1 (f 1) t u → One 2 (f 2) u v → One 3 (f 3) v w → Each f s w
each_four f s t u v w h a b c d =
    upto_all 4 f s w (omega arith)
    (upto_one 3 f s v w (omega arith) (upto_one 2 f s u v (omega arith) (upto_one 1 f s t u (omega arith) (upto_one 0 f s s t (omega arith) (upto_none f s h) a) b) c) d)

-- ---- the loop over the lanes

-- from u to t the first q words of n bytes of each string, from its byte i on, went into its state
pub record Words (strings : List ℕ) (each i n : ℕ) (u t : List ℕ) (q : ℕ) : Type 0 where
  pub words : length t ≡ 100
  pub left : (k : ℕ) → k < 4
      → puts xor_byte (state_at k t) (8 * q) (drop (8 * q) (take n (drop (each * k + i) strings))) ≡ puts xor_byte (state_at k u) 0 (take n (drop (each * k + i) strings))

pub words-none : (strings : List ℕ) (each i n : ℕ) (u : List ℕ) → length u ≡ 100 → Words strings each i n u u 0
words-none strings each i n u h = record { words = h; left = λ k g. refl }

module _ (strings : List ℕ) (each i n : ℕ) (fits : i + n ≤ each) (most : 4 * each ≤ length strings) where
  part_length : (k : ℕ) → k < 4 → length (take n (drop (each * k + i) strings)) ≡ n
  part_length k h =
      let e : each * k + each ≤ 4 * each = string-end each k h in
      length-take-le n (drop (each * k + i) strings) (simp length-drop (omega arith))

  pub words_step : (u t v : List ℕ) (q : ℕ) → ((m : ℕ) → get_or strings m 0 < 256) → 8 * q + 8 ≤ n → Words strings each i n u t q
      → Each (λ k l. xor_lane l q (word (take 8 (drop (each * k + (i + 8 * q)) strings)))) t v → Words strings each i n u v (q + 1)
  words_step u t v q bytes h w e = record { words = e.words; left = by }
    where
      by : (k : ℕ) → k < 4
          → puts xor_byte (state_at k v) (8 * (q + 1)) (drop (8 * (q + 1)) (take n (drop (each * k + i) strings))) ≡ puts xor_byte (state_at k u) 0 (take n (drop (each * k + i) strings))
      by k g =
          let s : List ℕ = take n (drop (each * k + i) strings) in
          let l : List ℕ = state_at k t in
          let next : 8 * (q + 1) ≡ 8 * q + 8 = omega arith in
          let same : word (take 8 (drop (each * k + (i + 8 * q)) strings)) ≡ word (take 8 (drop (8 * q) s)) =
          ap (λ (m : ℕ). word (take 8 (drop m strings))) (sym (add_assoc (each * k) i (8 * q))) ∙ ap word (part_of strings (each * k + i) n (8 * q) 8 h) in
          ap (λ (m : List ℕ). puts xor_byte m (8 * (q + 1)) (drop (8 * (q + 1)) s)) (e.each k g ∙ ap (xor_lane l q) same)
          ∙ ap (λ (m : ℕ). puts xor_byte (xor_lane l q (word (take 8 (drop (8 * q) s)))) (8 * (q + 1)) (drop m s)) next
          ∙ sym (word-step l s q (8 * q) (rw (part_length k g) h) (part_bytes strings (each * k + i) n bytes)) ∙ w.left k g

  pub words_all : (u t : List ℕ) (q : ℕ) → each ≡ length strings / 4 → n ≤ 8 * q → Words strings each i n u t q
      → Each (λ k l. puts xor_byte l 0 (take n (drop i (string_at k strings)))) u t
  words_all u t q e h w =
      record {
        words = w.words;
        each =
            λ k g.
            sym (puts_done (state_at k t) (take n (drop (each * k + i) strings)) (8 * q) (8 * q) (rw (part_length k g) h)) ∙ w.left k g
            ∙ ap (puts xor_byte (state_at k u) 0)
            (ap (λ (m : ℕ). take n (drop (m * k + i) strings)) e ∙ string_part strings k i n (rw (← e) fits));
      }

-- ---- the statuses, by their cases; the number is a fact of its own, so that a wrong one is refused as that

pub words_fit : (n : ℕ) → whole_words n ≡ true → (n ≤ 200) × (n % 8 ≡ 0)
words_fit n e = let b = (and-eq-true_iff (leb n 200) (eqb (n % 8) 0)).0 e in (leb-true _ _ b.0, eqb-true _ _ b.1)

module _ (words bytes i n : ℕ) where
  pub xor_12 : (r : ℕ) → r ≡ 12 → (words ≡ 100 → ⊥) → r ≡ xor_status words bytes i n
  unfolding xor_status
  xor_12 r e h = rw (ne_eqb words 100 h) e

  pub xor_5_words : (r : ℕ) → r ≡ 5 → words ≡ 100 → whole_words n ≡ false → r ≡ xor_status words bytes i n
  unfolding xor_status
  xor_5_words r e h w = rw (eq-eqb words 100 h, w) e

  pub xor_5_end : (r : ℕ) → r ≡ 5 → words ≡ 100 → whole_words n ≡ true → bytes / 4 < i + n → r ≡ xor_status words bytes i n
  unfolding xor_status
  xor_5_end r e h w g = rw (eq-eqb words 100 h, w, lt-leb (i + n) (bytes / 4) g) e

  pub xor_0 : (r : ℕ) → r ≡ 0 → words ≡ 100 → whole_words n ≡ true → i + n ≤ bytes / 4 → r ≡ xor_status words bytes i n
  unfolding xor_status
  xor_0 r e h w g = rw (eq-eqb words 100 h, w, le-leb (i + n) (bytes / 4) g) e

-- what is so where a status is 0
passed : (words : ℕ) (t : Bool) → states_status words ≡ 0 → cond t done unreachable ≡ 0 → (words ≡ 100) × (t ≡ true)
passed words true e f = (eqb-true words 100 (by (eqb words 100) e), refl)
  where
    by : (t : Bool) → cond t done bad_states ≡ 0 → t ≡ true
    by true e = refl
    by false e = absurd (omega arith)
passed words false e f = absurd (omega arith)

pub xor-taken : (words bytes i n : ℕ) → xor_status words bytes i n ≡ 0 → (words ≡ 100) × (n ≤ 200) × (n % 8 ≡ 0) × (i + n ≤ bytes / 4)
unfolding xor_status
xor-taken words bytes i n e =
    let f = first_zero (states_status words) _ e in
    let p = passed words _ f.0 f.1 in
    let b = (and-eq-true_iff (whole_words n) (leb (i + n) (bytes / 4))).0 p.1 in
    (p.0, (words_fit n b.0).0, (words_fit n b.0).1, leb-true _ _ b.1)

pub xor-fits : (words bytes i n : ℕ) → words ≡ 100 → n ≤ 200 → n % 8 ≡ 0 → i + n ≤ bytes / 4 → xor_status words bytes i n ≡ 0
xor-fits words bytes i n h a b c = sym (xor_0 words bytes i n 0 refl h (rw (le-leb n 200 a, eq-eqb (n % 8) 0 b)) c)

module _ (words j n : ℕ) where
  pub read_12 : (r : ℕ) → r ≡ 12 → (words ≡ 100 → ⊥) → r ≡ read_status words j n
  unfolding read_status
  read_12 r e h = rw (ne_eqb words 100 h) e

  pub read_5_state : (r : ℕ) → r ≡ 5 → words ≡ 100 → 4 ≤ j → r ≡ read_status words j n
  unfolding read_status
  read_5_state r e h g = rw (eq-eqb words 100 h, le-ltb j 4 g) e

  pub read_5_words : (r : ℕ) → r ≡ 5 → words ≡ 100 → j < 4 → whole_words n ≡ false → r ≡ read_status words j n
  unfolding read_status
  read_5_words r e h g w = rw (eq-eqb words 100 h, lt-ltb j 4 g, w) e

  pub read_0 : (r : ℕ) → r ≡ 0 → words ≡ 100 → j < 4 → whole_words n ≡ true → r ≡ read_status words j n
  unfolding read_status
  read_0 r e h g w = rw (eq-eqb words 100 h, lt-ltb j 4 g, w) e

pub read_taken : (words j n : ℕ) → read_status words j n ≡ 0 → (words ≡ 100) × (j < 4) × (n ≤ 200) × (n % 8 ≡ 0)
unfolding read_status
read_taken words j n e =
    let f = first_zero (states_status words) _ e in
    let p = passed words _ f.0 f.1 in
    let b = (and-eq-true_iff (ltb j 4) (whole_words n)).0 p.1 in
    (p.0, ltb-true j 4 b.0, (words_fit n b.1).0, (words_fit n b.1).1)

pub read_fits : (words j n : ℕ) → words ≡ 100 → j < 4 → n ≤ 200 → n % 8 ≡ 0 → read_status words j n ≡ 0
read_fits words j n h g a b = sym (read_0 words j n 0 refl h g (rw (le-leb n 200 a, eq-eqb (n % 8) 0 b)))

-- ---- what the calls leave, by the status r

module _ (s strings : List ℕ) (i n r : ℕ) (e : r ≡ xor_status (length s) (length strings) i n) where
  pub xor-refused : (r ≡ 0 → ⊥) → s ≡ xored_four s strings i n
  unfolding xored_four
  xor-refused h = rw (← e) (lent-refused r h _ s)

  -- done: each state gets its string's bytes, and no word is anything else
  pub xor_done : r ≡ 0 → (t : List ℕ) → Each (λ k l. puts xor_byte l 0 (take n (drop i (string_at k strings)))) s t → t ≡ xored_four s strings i n
  unfolding xored_four
  xor_done h t p = each_is (λ k l. puts xor_byte l 0 (take n (drop i (string_at k strings)))) s t p ∙ rw (← e) (lent_done r h _ s)

-- a call that is answered done, as its callers see it
pub xored_each : (s strings : List ℕ) (i n : ℕ) → xor_status (length s) (length strings) i n ≡ 0
    → Each (λ k l. puts xor_byte l 0 (take n (drop i (string_at k strings)))) s (xored_four s strings i n)
unfolding xored_four
xored_each s strings i n e =
    rw e
    (record {
      words = length-interleaved f;
      each = λ k h. state-interleaved f k h (puts-length (take n (drop i (string_at k strings))) (state_at k s) 0 ∙ state-length k s);
    })
  where
    f : ℕ → List ℕ
    f k = puts xor_byte (state_at k s) 0 (take n (drop i (string_at k strings)))

module _ (s : List ℕ) (j : ℕ) (out : List ℕ) (r : ℕ) (e : r ≡ read_status (length s) j (length out)) where
  pub read-refused : (r ≡ 0 → ⊥) → out ≡ read_output s j out
  unfolding read_output
  read-refused h = rw (← e) (lent-refused r h _ out)

  pub read_done : r ≡ 0 → bytes_from (state_at j s) 0 (length out) ≡ read_output s j out
  unfolding read_output
  read_done h = rw (← e) (lent_done r h _ out)
