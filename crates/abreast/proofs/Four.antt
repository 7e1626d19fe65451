-- Writing a lane of one of four interleaved states writes that lane of that state and leaves the other three; steps of one state, one after the other.
-- Assumes nothing.
use mathlib.Core.Path.{◌≡◌, refl, sym, ap, ap₂, ◌∙◌, subst}
use mathlib.Core.Logic.{◌≢◌}
use mathlib.Core.List.{List}
use Prim.Native.Nat.{ℕ, ◌+◌, ◌*◌, ◌/◌, ◌%◌, ◌<◌, ◌≤◌}
use native.Mathlib.Nat.{zero-add}
use native.Mathlib.Decide.{ℕ_discrete}
use native.Mathlib.Omega.{arith}
use borrow.Author.Tests.{eq-eqb, ne_eqb}
use lib.Bits.{bit_xor}
use lib.ListN.{length, get_or, set, length-set}
use lib.Seq.{get_or-set_same, get_or-set_other, ext_get_or}
use Rattle.keccak.specs.State.{lane}
use Rattle.keccak.specs.Round.{parity}
use Rattle.keccak.specs.Permutation.{last_rounds}
use Rattle.keccak.proofs.Grid.{from-length, from_at}
use Rattle.keccak.proofs.Steps.{parity_is}
use Rattle.keccak.proofs.Rounds.{last_none, all_taken, too_many}
use Rattle.keccak.proofs.States.{last_rounds-length}
use Rattle.abreast.specs.Four.{state_at, interleaved, permute_status, permuted_four}
use Rattle.abreast.specs.Inside.{One, Each}

pub state-length : (j : ℕ) (s : List ℕ) → length (state_at j s) ≡ 25
unfolding state_at
state-length j s = from-length _ 0 25

pub state_at_lem : (j : ℕ) (s : List ℕ) (i : ℕ) → i < 25 → get_or (state_at j s) i 0 ≡ get_or s (4 * i + j) 0
unfolding state_at
state_at_lem j s i h = from_at (λ k. get_or s (4 * k + j) 0) 0 25 i h ∙ ap (λ (k : ℕ). get_or s (4 * k + j) 0) (zero-add i)

module _ (j : ℕ) (s : List ℕ) (x : ℕ) where
  word_lane : (y w : ℕ) → w ≡ 4 * (x % 5 + 5 * (y % 5)) + j → get_or s w 0 ≡ lane (state_at j s) x y
  word_lane y w e =
      let h : x % 5 + 5 * (y % 5) < 25 = omega arith in
      ap (λ (n : ℕ). get_or s n 0) e ∙ sym (state_at_lem j s (x % 5 + 5 * (y % 5)) h)

  -- C[x] of state j, in words of the slice; w is the first of them
  abbrev pub column : ℕ → ℕ
  column w =
      bit_xor
      (bit_xor
      (bit_xor (bit_xor (get_or s w 0) (get_or s (4 * (x % 5 + 5) + j) 0)) (get_or s (4 * (x % 5 + 10) + j) 0))
      (get_or s (4 * (x % 5 + 15) + j) 0))
      (get_or s (4 * (x % 5 + 20) + j) 0)

  pub state-parity : (w : ℕ) → w ≡ 4 * (x % 5 + 0) + j → column w ≡ parity (state_at j s) x
  state-parity w e =
      ap₂ bit_xor (ap₂ bit_xor (ap₂ bit_xor (ap₂ bit_xor (word_lane 0 w e) (word_lane 1 _ refl)) (word_lane 2 _ refl)) (word_lane 3 _ refl)) (word_lane 4 _ refl)
      ∙ sym (parity_is (state_at j s) x)

-- two states are the same if their lanes are
same_state : (j k : ℕ) (s t : List ℕ) → ((i : ℕ) → i < 25 → get_or s (4 * i + j) 0 ≡ get_or t (4 * i + k) 0) → state_at j s ≡ state_at k t
same_state j k s t h =
    ext_get_or 0 (state_at j s) (state_at k t) (state-length j s ∙ sym (state-length k t))
    λ i g.
    let g' : i < 25 = subst (λ (n : ℕ). i < n) (state-length j s) g in
    state_at_lem j s i g' ∙ h i g' ∙ sym (state_at_lem k t i g')

module _ (j i v : ℕ) (s : List ℕ) (hj : j < 4) (hi : i < 25) (hs : length s ≡ 100) where
  own_lane : (k : ℕ) → k < 25 → get_or (set s (4 * i + j) v) (4 * k + j) 0 ≡ get_or (set (state_at j s) i v) k 0
  own_lane k h = by (ℕ_discrete k i)
    where
      by : Dec (k ≡ i) → get_or (set s (4 * i + j) v) (4 * k + j) 0 ≡ get_or (set (state_at j s) i v) k 0
      by (yes e) =
          let a : 4 * i + j < length s = omega arith in
          let b : i < length (state_at j s) = subst (λ (n : ℕ). i < n) (sym (state-length j s)) hi in
          ap (λ (n : ℕ). get_or (set s (4 * i + j) v) (4 * n + j) 0) e
          ∙ get_or-set_same s (4 * i + j) v 0 a ∙ sym (get_or-set_same (state_at j s) i v 0 b)
          ∙ ap (λ (n : ℕ). get_or (set (state_at j s) i v) n 0) (sym e)
      by (no ne) =
          let a : 4 * k + j ≢ 4 * i + j = λ e. ne (omega arith) in
          get_or-set_other s (4 * i + j) (4 * k + j) v 0 a ∙ sym (state_at_lem j s k h) ∙ sym (get_or-set_other (state_at j s) i k v 0 ne)

  set_own : state_at j (set s (4 * i + j) v) ≡ set (state_at j s) i v
  set_own =
      ext_get_or 0 (state_at j (set s (4 * i + j) v)) (set (state_at j s) i v)
      (state-length j (set s (4 * i + j) v) ∙ sym (length-set (state_at j s) i v ∙ state-length j s))
      λ k g.
      let g' : k < 25 = subst (λ (n : ℕ). k < n) (state-length j (set s (4 * i + j) v)) g in
      state_at_lem j (set s (4 * i + j) v) k g' ∙ own_lane k g'

  set_other : (k : ℕ) → k < 4 → k ≢ j → state_at k (set s (4 * i + j) v) ≡ state_at k s
  set_other k hk ne =
      same_state k k (set s (4 * i + j) v) s
      λ n h.
      let a : 4 * n + k ≢ 4 * i + j = λ e. ne (omega arith) in
      get_or-set_other s (4 * i + j) (4 * n + k) v 0 a

  -- lane i of state j is written
  one_set : One j (λ l. set l i v) s (set s (4 * i + j) v)
  one_set = record { words = length-set s (4 * i + j) v ∙ hs; own = set_own; other = set_other }

-- the same, of any index and value that are these
pub one_put : (j i v x w : ℕ) (s : List ℕ) → j < 4 → i < 25 → length s ≡ 100 → x ≡ 4 * i + j → w ≡ v → One j (λ l. set l i v) s (set s x w)
one_put j i v x w s hj hi hs ex ew =
    subst (λ (n : ℕ). One j (λ l. set l i v) s (set s n w)) (sym ex)
    (subst (λ (n : ℕ). One j (λ l. set l i v) s (set s (4 * i + j) n)) (sym ew) (one_set j i v s hj hi hs))

-- two steps of one state
pub one_then : (j : ℕ) (f g : List ℕ → List ℕ) (s t u : List ℕ) → One j f s t → One j g t u → One j (λ l. g (f l)) s u
one_then j f g s t u p q =
    record {
      words = q.words;
      own = q.own ∙ ap g p.own;
      other = λ k h ne. q.other k h ne ∙ p.other k h ne;
    }

-- w XORed into lane q of state j
pub one_xor : (j q w : ℕ) (s : List ℕ) → j < 4 → q < 25 → length s ≡ 100
    → One j (λ l. set l q (bit_xor (get_or l q 0) w)) s (set s (4 * q + j) (bit_xor (get_or s (4 * q + j) 0) w))
one_xor j q w s hj hq hs =
    let p = one_set j q (bit_xor (get_or s (4 * q + j) 0) w) s hj hq hs in
    record {
      words = p.words;
      own = p.own ∙ ap (λ (x : ℕ). set (state_at j s) q (bit_xor x w)) (sym (state_at_lem j s q hq));
      other = p.other;
    }

-- from s to t the first n states went through f, and the others stayed
pub record Upto (n : ℕ) (f : ℕ → List ℕ → List ℕ) (s t : List ℕ) : Type 0 where
  pub words : length t ≡ 100
  pub done : (k : ℕ) → k < n → state_at k t ≡ f k (state_at k s)
  pub left : (k : ℕ) → n ≤ k → k < 4 → state_at k t ≡ state_at k s

pub upto_none : (f : ℕ → List ℕ → List ℕ) (s : List ℕ) → length s ≡ 100 → Upto 0 f s s
upto_none f s h = record { words = h; done = λ k g. absurd (omega arith); left = λ k g i. refl }

pub upto_one : (n : ℕ) (f : ℕ → List ℕ → List ℕ) (s t u : List ℕ) → n < 4 → Upto n f s t → One n (f n) t u → Upto (n + 1) f s u
upto_one n f s t u h p q =
    record {
      words = q.words;
      done = λ k g. by k g (ℕ_discrete k n);
      left = λ k g i. q.other k i (λ e. absurd (omega arith)) ∙ p.left k (omega arith) i;
    }
  where
    by : (k : ℕ) → k < n + 1 → Dec (k ≡ n) → state_at k u ≡ f k (state_at k s)
    by k g (yes e) = subst (λ (m : ℕ). state_at m u ≡ f m (state_at m s)) (sym e) (q.own ∙ ap (f n) (p.left n (omega arith) h))
    by k g (no ne) =
        let below : k < n = omega (arith, ne) in
        q.other k (omega arith) ne ∙ p.done k below

pub upto_all : (n : ℕ) (f : ℕ → List ℕ → List ℕ) (s t : List ℕ) → 4 ≤ n → Upto n f s t → Each f s t
upto_all n f s t h p = record { words = p.words; each = λ k g. p.done k (omega arith) }

-- ---- a slice is its four states

pub length-interleaved : (f : ℕ → List ℕ) → length (interleaved f) ≡ 100
unfolding interleaved
length-interleaved f = from-length _ 0 100

interleaved_at : (f : ℕ → List ℕ) (w : ℕ) → w < 100 → get_or (interleaved f) w 0 ≡ get_or (f (w % 4)) (w / 4) 0
unfolding interleaved
interleaved_at f w h = from_at (λ n. get_or (f (n % 4)) (n / 4) 0) 0 100 w h ∙ ap (λ (n : ℕ). get_or (f (n % 4)) (n / 4) 0) (zero-add w)

pub state-interleaved : (f : ℕ → List ℕ) (k : ℕ) → k < 4 → length (f k) ≡ 25 → state_at k (interleaved f) ≡ f k
state-interleaved f k hk e =
    ext_get_or 0 (state_at k (interleaved f)) (f k) (state-length k (interleaved f) ∙ sym e)
    λ i g.
    let g' : i < 25 = subst (λ (n : ℕ). i < n) (state-length k (interleaved f)) g in
    let h : 4 * i + k < 100 = omega arith in
    let r : (4 * i + k) % 4 ≡ k = omega arith in
    let q : (4 * i + k) / 4 ≡ i = omega arith in
    state_at_lem k (interleaved f) i g' ∙ interleaved_at f (4 * i + k) h ∙ ap₂ (λ (m n : ℕ). get_or (f m) n 0) r q

-- word w is lane w / 4 of state w % 4
word_at : (s : List ℕ) (w : ℕ) → w < 100 → get_or (state_at (w % 4) s) (w / 4) 0 ≡ get_or s w 0
word_at s w h =
    let i : w / 4 < 25 = omega arith in
    let e : 4 * (w / 4) + w % 4 ≡ w = omega arith in
    state_at_lem (w % 4) s (w / 4) i ∙ ap (λ (n : ℕ). get_or s n 0) e

pub states_same : (s t : List ℕ) → length s ≡ 100 → length t ≡ 100 → ((k : ℕ) → k < 4 → state_at k s ≡ state_at k t) → s ≡ t
states_same s t hs ht h =
    ext_get_or 0 s t (hs ∙ sym ht)
    λ w g.
    let g' : w < 100 = subst (λ (n : ℕ). w < n) hs g in
    let k : w % 4 < 4 = omega arith in
    sym (word_at s w g') ∙ ap (λ (l : List ℕ). get_or l (w / 4) 0) (h (w % 4) k) ∙ word_at t w g'

pub interleaved_states : (s : List ℕ) → length s ≡ 100 → interleaved (λ j. state_at j s) ≡ s
interleaved_states s hs =
    states_same (interleaved (λ j. state_at j s)) s (length-interleaved (λ j. state_at j s)) hs
    (λ k h. state-interleaved (λ j. state_at j s) k h (state-length k s))

pub each_is : (f : ℕ → List ℕ → List ℕ) (s t : List ℕ) → Each f s t → t ≡ interleaved (λ k. f k (state_at k s))
each_is f s t p =
    states_same t (interleaved g) p.words (length-interleaved g)
    (λ k h. p.each k h ∙ sym (state-interleaved g k h (ap length (sym (p.each k h)) ∙ state-length k t)))
  where
    g : ℕ → List ℕ
    g k = f k (state_at k s)

-- ---- the permutation of a slice

permuted_is : (n : ℕ) (s : List ℕ) → length s ≡ 100 → permuted_four n s ≡ interleaved (λ j. last_rounds n (state_at j s))
unfolding permuted_four
permuted_is n s h = rw (eq-eqb (length s) 100 h)

pub each-permuted : (n : ℕ) (s : List ℕ) → length s ≡ 100 → Each (λ _. last_rounds n) s (permuted_four n s)
each-permuted n s h =
    subst (Each (λ _. last_rounds n) s) (sym (permuted_is n s h))
    (record {
      words = length-interleaved g;
      each = λ k hk. state-interleaved g k hk (last_rounds-length n (state_at k s) (state-length k s));
    })
  where
    g : ℕ → List ℕ
    g j = last_rounds n (state_at j s)

pub permuted-each : (n : ℕ) (s t : List ℕ) → length s ≡ 100 → Each (λ _. last_rounds n) s t → t ≡ permuted_four n s
permuted-each n s t h p = each_is (λ _. last_rounds n) s t p ∙ sym (permuted_is n s h)

-- a slice that is refused stays as it is
pub permuted-other_length : (n : ℕ) (s : List ℕ) → length s ≢ 100 → s ≡ permuted_four n s
unfolding permuted_four
permuted-other_length n s h = rw (ne_eqb (length s) 100 h)

pub permuted-none : (n : ℕ) (s : List ℕ) → length s ≡ 100 → 24 < n → s ≡ permuted_four n s
permuted-none n s h more = permuted-each n s s h (record { words = h; each = λ k _. last_none n (state_at k s) more })

-- ---- the status: 12, then 16

pub status_12 : (words n : ℕ) → words ≢ 100 → 12 ≡ permute_status words n
status_12 words n h = rw (ne_eqb words 100 h)

pub status_16 : (words n : ℕ) → words ≡ 100 → 24 < n → 16 ≡ permute_status words n
status_16 words n h more = rw (eq-eqb words 100 h) (too_many n more)

pub status_0 : (words n : ℕ) → words ≡ 100 → n ≤ 24 → 0 ≡ permute_status words n
status_0 words n h few = rw (eq-eqb words 100 h) (all_taken n few)
