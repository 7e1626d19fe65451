-- The sponge byte by byte computes the published one, for every rate above 0.
-- Assumes nothing.
use mathlib.Core.Path.{◌≡◌, refl, sym, ap, ◌∙◌, subst⁻¹}
use mathlib.Core.List.{List, [], ◌∷◌, ◌++◌}
use Prim.Native.Nat.{ℕ, zero, suc, ◌+◌, ◌-◌, ◌*◌, ◌≤◌, ◌<◌, zero-le}
use native.Mathlib.Nat.{zero-add, suc-add, add-suc, add-zero}
use native.Mathlib.Decide.{dec_le}
use native.Mathlib.Omega.{arith}
use lib.ListN.{length, take, drop, replicate, length-append, length-replicate}
use lib.Seq.{take-append-le, take-append-add}
use borrow.Author.Tests.{eq-eqb, ne_eqb}
use Rattle.keccak.specs.State.{byte_at}
use Rattle.sponge.specs.Cut.{ceil, pieces, cut, puts}
use Rattle.sponge.specs.Published.{xor_byte, bytes_from, xor_last, zero_lanes, padded, absorb_blocks, squeeze_blocks, absorbed, sponge}
use Rattle.sponge.specs.Waiting.{ready, step}
use Rattle.sponge.specs.Model.{Sponge, fresh, absorb_bytes, pad, pad_with, squeeze_byte, after_byte, squeeze_bytes, after_bytes}
use Rattle.sponge.proofs.Waiting.{Held, held, steps-append, steps_in, walk, steps-pieces}
use Rattle.sponge.proofs.Xor.{xor_byte-zero, xor_byte_twice}

-- ---- lists

length-xor_last : (v : ℕ) (s : List ℕ) → length (xor_last v s) ≡ length s
length-xor_last v [] = refl
length-xor_last v (x ∷ []) = refl
length-xor_last v (x ∷ y ∷ s) = ap suc (length-xor_last v (y ∷ s))

pub length-bytes_from : (a : List ℕ) (i n : ℕ) → length (bytes_from a i n) ≡ n
length-bytes_from a i zero = refl
length-bytes_from a i (suc n) = ap suc (length-bytes_from a (suc i) n)

take-bytes_from : (n k : ℕ) (a : List ℕ) (i : ℕ) → k ≤ n → take k (bytes_from a i n) ≡ bytes_from a i k
take-bytes_from n zero a i h = refl
take-bytes_from zero (suc k) a i h = absurd (omega arith)
take-bytes_from (suc n) (suc k) a i h = ap (λ (r : List ℕ). byte_at a i ∷ r) (take-bytes_from n k a (suc i) (omega arith))

take_past : (x y : List ℕ) (j : ℕ) {n : ℕ} → length x ≡ n → take (n + j) (x ++ y) ≡ x ++ take j y
take_past x y j e = rw (← e) (take-append-add x y j)

module _ (P : List ℕ → List ℕ) (rate : ℕ) (pos : 0 < rate) where
  -- ---- input

  -- the pieces, walked, and the last permutation: the draft's blocks
  walk_blocks : (a : List ℕ) (p : List ℕ) (ps : List (List ℕ)) → P (walk P xor_byte rate a p ps) ≡ absorb_blocks P a (p ∷ ps)
  walk_blocks a p [] = refl
  walk_blocks a p (q ∷ ps) = walk_blocks (P (puts xor_byte a 0 p)) q ps

  -- zeros inside the block move only the place
  puts_zeros : (n : ℕ) (a : List ℕ) (i : ℕ) → puts xor_byte a i (replicate n 0) ≡ a
  puts_zeros zero a i = refl
  puts_zeros (suc n) a i = ap (λ (x : List ℕ). puts xor_byte x (suc i) (replicate n 0)) (xor_byte-zero a i) ∙ puts_zeros n a (suc i)

  zeros : (n : ℕ) (a : List ℕ) (i : ℕ) → i + n ≡ rate
      → absorb_bytes P rate (record { value = a; position = i }) (replicate n 0) ≡ record { value = a; position = rate }
  zeros n a i h =
      let l : i + length {A = ℕ} (replicate n 0) ≡ rate = simp length-replicate h in
      rw (steps_in P xor_byte rate a i (replicate n 0) (omega arith), puts_zeros n a i, l)

  -- what is XORed into the last byte is XORed into the byte before the place
  late : Sponge → ℕ → Sponge
  late s v = record { value = xor_byte s.value (s.position - 1) v; position = s.position }

  last : (v : ℕ) (s : List ℕ) (t : Sponge) → 0 < length s → absorb_bytes P rate t (xor_last v s) ≡ late (absorb_bytes P rate t s) v
  unfolding late
  last v [] t h = absurd (let z : 1 ≤ 0 = h in omega arith)
  last v (b ∷ []) t h =
      let i : ℕ = (ready P rate t).position in
      let e : suc i - 1 ≡ i = omega arith in
      rw (e, xor_byte_twice)
  last v (b ∷ c ∷ s) t h = last v (c ∷ s) (step P xor_byte rate t b) (omega arith)

  -- the fold that waits, and one permutation more: the draft's blocks
  cut_blocks : (a : List ℕ) (s : List ℕ) → 0 < length s → P (absorb_bytes P rate (record { value = a; position = 0 }) s).value ≡ absorb_blocks P a (cut rate s)
  cut_blocks a s h = by (held pos h)
    where
      by : Held rate (length s) → P (absorb_bytes P rate (record { value = a; position = 0 }) s).value ≡ absorb_blocks P a (cut rate s)
      by g =
          rw (g.is, steps-pieces P xor_byte rate pos g.q a s g.lo g.hi)
          (walk_blocks a (take rate s) (pieces g.q rate (drop rate s)))

  -- zeros up to the end of the block change no lane
  pub fill_block : (a : List ℕ) (s : List ℕ) → 0 < length s
      → absorb_bytes P rate (record { value = a; position = 0 }) (s ++ replicate (ceil rate (length s) * rate - length s) 0)
      ≡ record { value = (absorb_bytes P rate (record { value = a; position = 0 }) s).value; position = rate }
  fill_block a s h = by (held pos h)
    where
      k : ℕ
      k = ceil rate (length s) * rate - length s

      by : Held rate (length s) → absorb_bytes P rate (record { value = a; position = 0 }) (s ++ replicate k 0)
          ≡ record { value = (absorb_bytes P rate (record { value = a; position = 0 }) s).value; position = rate }
      by g =
          let e : length s + k ≡ suc g.q * rate = rw g.is (omega arith) in
          rw (steps-append P xor_byte rate (record { value = a; position = 0 }) s (replicate k 0), steps-pieces P xor_byte rate pos g.q a s g.lo g.hi)
          (zeros k (walk P xor_byte rate a (take rate s) (pieces g.q rate (drop rate s))) (length s - g.q * rate) (omega arith))

  -- the draft's padding: zeros, and v XORed into the last byte
  pad_blocks : (a : List ℕ) (s : List ℕ) (v : ℕ) → 0 < length s
      → absorb_blocks P a (cut rate (xor_last v (s ++ replicate (ceil rate (length s) * rate - length s) 0)))
      ≡ P (xor_byte (absorb_bytes P rate (record { value = a; position = 0 }) s).value (rate - 1) v)
  unfolding late
  pad_blocks a s v h =
      let k : ℕ = ceil rate (length s) * rate - length s in
      let l : 0 < length (s ++ replicate k 0) = simp length-append (omega arith) in
      sym (cut_blocks a (xor_last v (s ++ replicate k 0)) (simp length-xor_last l))
      ∙ ap (λ (t : Sponge). P t.value) (last v (s ++ replicate k 0) (record { value = a; position = 0 }) l ∙ ap (λ (t : Sponge). late t v) (fill_block a s h))

  -- the padding ends the published absorbing phase
  pub pad-absorbed : (m : List ℕ) (d : ℕ) → pad P rate (absorb_bytes P rate fresh m) d ≡ record { value = absorbed P rate m d; position = 0 }
  unfolding pad_with absorbed padded
  pad-absorbed m d =
      ap (λ (x : List ℕ). record { value = x; position = 0 })
      (ap (λ (t : Sponge). P (xor_byte t.value (rate - 1) 0x80)) (sym (steps-append P xor_byte rate fresh m (d ∷ [])))
      ∙ sym (pad_blocks zero_lanes (m ++ d ∷ []) 0x80 (simp length-append (omega arith))))

  -- ---- output

  pub squeeze-add : (m n : ℕ) (s : Sponge) → squeeze_bytes P rate (m + n) s ≡ squeeze_bytes P rate m s ++ squeeze_bytes P rate n (after_bytes P rate m s)
  squeeze-add zero n s = rw zero-add
  squeeze-add (suc m) n s = rw suc-add (ap (λ (r : List ℕ). squeeze_byte P rate s ∷ r) (squeeze-add m n (after_byte P rate s)))

  pub after-add : (m n : ℕ) (s : Sponge) → after_bytes P rate (m + n) s ≡ after_bytes P rate n (after_bytes P rate m s)
  after-add zero n s = rw zero-add
  after-add (suc m) n s = rw suc-add (after-add m n (after_byte P rate s))

  pub length-squeeze : (n : ℕ) (s : Sponge) → length (squeeze_bytes P rate n s) ≡ n
  length-squeeze zero s = refl
  length-squeeze (suc n) s = ap suc (length-squeeze n (after_byte P rate s))

  pub after_in : (k : ℕ) (a : List ℕ) (i : ℕ) → i + k ≤ rate → after_bytes P rate k (record { value = a; position = i }) ≡ record { value = a; position = i + k }
  after_in zero a i h = rw add-zero
  after_in (suc k) a i h = rw (ne_eqb i rate (omega arith), after_in k a (suc i) (omega arith), suc-add, add-suc)

  pub squeeze_in : (k : ℕ) (a : List ℕ) (i : ℕ) → i + k ≤ rate → squeeze_bytes P rate k (record { value = a; position = i }) ≡ bytes_from a i k
  squeeze_in zero a i h = refl
  squeeze_in (suc k) a i h = rw (ne_eqb i rate (omega arith)) (ap (λ (r : List ℕ). byte_at a i ∷ r) (squeeze_in k a (suc i) (omega arith)))

  squeeze_full : (k : ℕ) (a : List ℕ) → squeeze_bytes P rate k (record { value = a; position = rate }) ≡ squeeze_bytes P rate k (record { value = P a; position = 0 })
  squeeze_full zero a = refl
  squeeze_full (suc k) a = rw (eq-eqb rate rate refl, ne_eqb 0 rate (omega arith))

  squeeze_over : (j : ℕ) (a : List ℕ) → squeeze_bytes P rate (rate + j) (record { value = a; position = 0 }) ≡ bytes_from a 0 rate ++ squeeze_bytes P rate j (record { value = P a; position = 0 })
  squeeze_over j a = rw (squeeze-add, squeeze_in rate a 0 (omega arith), after_in rate a 0 (omega arith), zero-add, squeeze_full)

  -- reading byte by byte: the draft's blocks of output, as many as are needed or more
  squeeze_blocks_lem : (n l : ℕ) (a : List ℕ) → l ≤ n * rate → squeeze_bytes P rate l (record { value = a; position = 0 }) ≡ take l (squeeze_blocks P rate n a)
  squeeze_blocks_lem zero zero a h = refl
  squeeze_blocks_lem zero (suc l) a h = absurd (omega arith)
  squeeze_blocks_lem (suc n) l a h = by (dec_le l rate) (squeeze_blocks_lem n (l - rate) (P a) (omega arith))
    where
      Is : ℕ → Type 0
      Is k = squeeze_bytes P rate k (record { value = a; position = 0 }) ≡ take k (squeeze_blocks P rate (suc n) a)

      by : Dec (l ≤ rate) → squeeze_bytes P rate (l - rate) (record { value = P a; position = 0 }) ≡ take (l - rate) (squeeze_blocks P rate n (P a)) → Is l
      by (yes le) ih =
          squeeze_in l a 0 (omega arith) ∙ sym (take-bytes_from rate l a 0 le)
          ∙ sym (take-append-le l (bytes_from a 0 rate) (squeeze_blocks P rate n (P a)) (simp length-bytes_from le))
      by (no gt) ih =
          let e : l ≡ rate + (l - rate) = omega arith in
          subst⁻¹ Is e (squeeze_over (l - rate) a ∙ rw ih (sym (take_past (bytes_from a 0 rate) (squeeze_blocks P rate n (P a)) (l - rate) (length-bytes_from a 0 rate))))

  enough : (n : ℕ) → n ≤ ceil rate n * rate
  enough zero = zero-le
  enough (suc n) = let g : Held rate (suc n) = held pos (omega arith) in rw g.is g.hi

  -- what is squeezed after m was absorbed and padded with d is the published output
  pub squeeze-sponge : (m : List ℕ) (d l : ℕ) → squeeze_bytes P rate l (pad P rate (absorb_bytes P rate fresh m) d) ≡ sponge P rate m d l
  unfolding sponge
  squeeze-sponge m d l = rw (pad-absorbed m d) (squeeze_blocks_lem (ceil rate l) l (absorbed P rate m d) (enough l))
