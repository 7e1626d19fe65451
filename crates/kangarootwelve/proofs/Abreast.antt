-- Four sponges in one slice: a chunk in a row of four, a block more of each, the permutation of all, and the padding.
-- Assumes nothing.
use mathlib.Core.Path.{◌≡◌, refl, sym, ap, ◌∙◌, subst}
use mathlib.Core.List.{List}
use Prim.Native.Nat.{ℕ, ◌+◌, ◌-◌, ◌*◌, ◌/◌, ◌%◌, ◌<◌, ◌≤◌}
use native.Mathlib.Nat.{zero-add, mul_comm}
use native.Mathlib.Omega.{arith}
use lib.ListN.{length, take, drop, length-drop}
use lib.Seq.{length-take-le}
use Rattle.keccak.specs.Permutation.{permuted}
use Rattle.abreast.specs.Four.{state_at, permuted_four}
use Rattle.abreast.specs.Inside.{Each}
use Rattle.abreast.proofs.Four.{each-permuted}
use Rattle.sponge.specs.Cut.{puts}
use Rattle.sponge.specs.Published.{xor_byte}
use Rattle.sponge.specs.Waiting.{ready}
use Rattle.sponge.specs.Four.{string_at, xored_four}
use Rattle.sponge.specs.Model.{Sponge, absorb_bytes, pad}
use Rattle.sponge.proofs.Abreast.{string_is, xor-fits, xored_each}
use Rattle.sponge.proofs.Blocks.{ready_full, ready_other, absorb_part, absorb_done, pad_part}
use Rattle.turboshake.specs.Published.{turboshake_rounds}
use Rattle.kangarootwelve.specs.Published.{chunk}
use Rattle.kangarootwelve.specs.Leaves.{chunk_at, Sponges}

-- ---- a chunk of four in a row

quarter : (s : List ℕ) → length s ≡ 32768 → length s / 4 ≡ 8192
quarter s e = ap (λ (n : ℕ). n / 4) e

string-chunk : (s : List ℕ) (k : ℕ) → length s ≡ 32768 → string_at k s ≡ chunk_at k s
unfolding chunk_at chunk
string-chunk s k e =
    string_is k s ∙ ap (λ (n : ℕ). take n (drop (n * k) s)) (quarter s e) ∙ ap (λ (n : ℕ). take 8192 (drop n s)) (mul_comm 8192 k)

pub chunk-length : (s : List ℕ) (k : ℕ) → k < 4 → length s ≡ 32768 → length (chunk_at k s) ≡ 8192
unfolding chunk_at chunk
chunk-length s k h e = length-take-le 8192 (drop (k * 8192) s) (simp length-drop (omega arith))

-- ---- what the calls on the slice do to each state; t is what a call leaves

pub block_each : (s t chunks : List ℕ) (i n : ℕ) → length s ≡ 100 → length chunks ≡ 32768 → n ≤ 200 → n % 8 ≡ 0 → i + n ≤ 8192 → t ≡ xored_four s chunks i n
    → Each (λ k l. puts xor_byte l 0 (take n (drop i (chunk_at k chunks)))) s t
block_each s t chunks i n hs hc most whole fits e =
    let p = xored_each s chunks i n (xor-fits (length s) (length chunks) i n hs most whole (rw (quarter chunks hc) fits)) in
    record {
      words = ap length e ∙ p.words;
      each = λ k h. ap (state_at k) e ∙ p.each k h ∙ ap (λ (c : List ℕ). puts xor_byte (state_at k s) 0 (take n (drop i c))) (string-chunk chunks k hc);
    }

pub twelve_each : (s t : List ℕ) → length s ≡ 100 → t ≡ permuted_four turboshake_rounds s → Each (λ _. permuted) s t
twelve_each s t h e = subst (Each (λ _. permuted) s) (sym e) (each-permuted turboshake_rounds s h)

-- ---- blocks of one sponge

module _ (rate : ℕ) (h : 0 < rate) where
  -- the first block of a fresh position
  pub absorb_first : (v w c : List ℕ) → w ≡ puts xor_byte v 0 (take rate (drop 0 c)) → rate ≤ length c
      → absorb_bytes permuted rate (record { value = w; position = rate }) (drop rate c) ≡ absorb_bytes permuted rate (record { value = v; position = 0 }) c
  absorb_first v w c e g =
      ap (λ (m : List ℕ). absorb_bytes permuted rate (record { value = m; position = rate }) (drop rate c)) e
      ∙ ap (λ (n : ℕ). absorb_bytes permuted rate (record { value = puts xor_byte v 0 (take rate (drop 0 c)); position = n }) (drop n c)) (sym (zero-add rate))
      ∙ absorb_part permuted rate (record { value = v; position = 0 }) v 0 (ready_other permuted rate v 0 h) h c 0 rate (omega arith) (omega arith) (omega arith)

  -- a block more, after a full one
  pub absorb_more : (x v w c : List ℕ) (i k : ℕ) → v ≡ permuted x → w ≡ puts xor_byte v 0 (take k (drop i c)) → i < length c → k ≤ rate → i + k ≤ length c
      → absorb_bytes permuted rate (record { value = w; position = k }) (drop (i + k) c) ≡ absorb_bytes permuted rate (record { value = x; position = rate }) (drop i c)
  absorb_more x v w c i k ev ew hi hk hl =
      ap (λ (m : List ℕ). absorb_bytes permuted rate (record { value = m; position = k }) (drop (i + k) c)) ew
      ∙ ap (λ (n : ℕ). absorb_bytes permuted rate (record { value = puts xor_byte v 0 (take k (drop i c)); position = n }) (drop (i + k) c)) (sym (zero-add k))
      ∙ absorb_part permuted rate (record { value = x; position = rate }) v 0
      (ap (λ (m : List ℕ). record { value = m; position = 0 }) ev ∙ ready_full permuted rate x rate refl) h c i k hi (omega arith) hl

-- ---- the loop over the blocks of four chunks

-- what is left of the chunks from byte i on takes the sponges of t, at position p, to where what follows the first block takes those of u
pub record Left (rate : ℕ) (chunks u t : List ℕ) (p i : ℕ) : Type 0 where
  pub words : length t ≡ 100
  pub each : (k : ℕ) → k < 4
      → absorb_bytes permuted rate (record { value = state_at k t; position = p }) (drop i (chunk_at k chunks))
      ≡ absorb_bytes permuted rate (record { value = state_at k u; position = rate }) (drop rate (chunk_at k chunks))

module _ (rate : ℕ) (pos : 0 < rate) (most : rate ≤ 200) (chunks : List ℕ) (hc : length chunks ≡ 32768) where
  -- full blocks are permuted, and n bytes more of each chunk go in
  pub left_more : (u t x v : List ℕ) (p i n : ℕ) → p ≡ rate → i < 8192 → n ≤ rate → n % 8 ≡ 0 → i + n ≤ 8192 → x ≡ permuted_four turboshake_rounds t → v ≡ xored_four x chunks i n
      → Left rate chunks u t p i → Left rate chunks u v n (i + n)
  left_more u t x v p i n ep hi hn whole fits ex ev l =
      record {
        words = b.words;
        each =
            λ k h.
            let cl : length (chunk_at k chunks) ≡ 8192 = chunk-length chunks k h hc in
            absorb_more rate pos (state_at k t) (state_at k x) (state_at k v) (chunk_at k chunks) i n (a.each k h) (b.each k h) (omega (arith, cl)) hn (omega (arith, cl))
            ∙ ap (λ (q : ℕ). absorb_bytes permuted rate (record { value = state_at k t; position = q }) (drop i (chunk_at k chunks))) (sym ep) ∙ l.each k h;
      }
    where
      a : Each (λ _. permuted) t x
      a = twelve_each t x l.words ex

      b : Each (λ k m. puts xor_byte m 0 (take n (drop i (chunk_at k chunks)))) x v
      b = block_each x v chunks i n a.words hc (omega arith) whole fits ev

  -- u is what the first block leaves of s
  pub left_all : (s u t : List ℕ) (p i : ℕ) → length s ≡ 100 → rate % 8 ≡ 0 → u ≡ xored_four s chunks 0 rate → 8192 ≤ i → Left rate chunks u t p i
      → Sponges (λ k a. absorb_bytes permuted rate a (chunk_at k chunks)) s 0 t p
  left_all s u t p i hs whole eu end l =
      record {
        words = l.words;
        each =
            λ k h.
            let cl : length (chunk_at k chunks) ≡ 8192 = chunk-length chunks k h hc in
            sym (absorb_done permuted rate (record { value = state_at k t; position = p }) (chunk_at k chunks) i (omega (arith, cl, end))) ∙ l.each k h
            ∙ absorb_first rate pos (state_at k s) (state_at k u) (chunk_at k chunks) (b.each k h) (omega (arith, cl, most));
      }
    where
      b : Each (λ k m. puts xor_byte m 0 (take rate (drop 0 (chunk_at k chunks)))) s u
      b = block_each s u chunks 0 rate hs hc most whole (omega arith) eu

-- ---- four sponges

pub sponges_then : (f g : ℕ → Sponge → Sponge) (s t u : List ℕ) (p q r : ℕ) → Sponges f s p t q → Sponges g t q u r → Sponges (λ k a. g k (f k a)) s p u r
sponges_then f g s t u p q r a b = record { words = b.words; each = λ k h. b.each k h ∙ ap (g k) (a.each k h) }

pub sponges_pad : (rate position at d : ℕ) (s0 s1 s2 s3 t : List ℕ) → at < rate → Sponges (λ _. ready permuted rate) s0 position s1 at
    → Each (λ _ l. xor_byte l at d) s1 s2 → Each (λ _ l. xor_byte l (rate - 1) 0x80) s2 s3 → Each (λ _. permuted) s3 t
    → Sponges (λ _ s. pad permuted rate s d) s0 position t 0
sponges_pad rate position at d s0 s1 s2 s3 t h p e1 e2 q =
    record {
      words = q.words;
      each =
          λ k g.
          ap (λ (m : List ℕ). record { value = m; position = 0 })
          (q.each k g ∙ ap permuted (e2.each k g ∙ ap (λ (m : List ℕ). xor_byte m (rate - 1) 0x80) (e1.each k g)))
          ∙ pad_part permuted rate (record { value = state_at k s0; position = position }) (state_at k s1) at (p.each k g) h d;
    }
