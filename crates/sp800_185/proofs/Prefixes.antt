-- What the code absorbs before a message is the prefix: strings one after the other, and zeros that change no lane.
-- Assumes nothing.
use mathlib.Core.Path.{◌≡◌, refl, sym, ap, ◌∙◌, subst}
use mathlib.Core.List.{List, ◌++◌}
use Prim.Native.Nat.{ℕ, zero, suc, ◌+◌, ◌-◌, ◌*◌, ◌≤◌, ◌<◌}
use native.Mathlib.Nat.{mod-eq_of_lt, zero-add, add-mul, mul-pos, mul-le-mul_left}
use native.Mathlib.Omega.{arith}
use lib.ListN.{length, length-append}
use lib.Arith.{digits_div, digits_mod}
use Rattle.keccak.specs.Permutation.{last_rounds}
use Rattle.sponge.specs.Waiting.{position_after, index_after}
use Rattle.sponge.specs.Published.{xor_byte}
use Rattle.sponge.specs.Model.{Sponge, fresh, Outcome, absorb_bytes, absorb_call}
use Rattle.sponge.specs.Count.{Counted, counted_from}
use Rattle.sponge.proofs.Waiting.{Held, held, steps-append, steps_full}
use Rattle.sponge.proofs.Position.{steps-position}
use Rattle.sponge.proofs.Count.{added, steps-counted, added-index}
use Rattle.sponge.proofs.Published.{fill_block}
use Rattle.sponge.proofs.Valid.{fits-valid, absorb_done}
use Rattle.hasher.specs.declared.Run.{Run}
use Rattle.hasher.proofs.Cases.{position-le}
use Rattle.sp800_185.specs.Published.{left_encode, encode_string, bytepad, cshake_prefix, kmac_name}
use Rattle.sp800_185.specs.Start.{string_limit, key_limit, kmac_prefix, start_run, encoded_length, padded_blocks}
use Rattle.sp800_185.proofs.Blocks.{left_least, string-length, bytepad-length, padded-least}
use Rattle.sp800_185.proofs.Encoding.{left_short}

-- a position in a block is the one after as many bytes
own : (rate p : ℕ) → p ≤ rate → p ≡ position_after rate p
own rate zero h = refl
own rate (suc p) h = ap suc (sym (mod-eq_of_lt {n = p} {m = rate} h))

module _ (rate : ℕ) (pos : 0 < rate) (most : rate ≤ 200) where
  -- ---- a call of the sponge that is done

  pub absorbs : (s : Sponge) (p : List ℕ) (o : Outcome) → s.position ≤ rate → o ≡ absorb_call 24 rate s p → o.state ≡ absorb_bytes (last_rounds 24) rate s p
  absorbs s p o h e = ap (λ (u : Outcome). u.state) (e ∙ absorb_done 24 rate s (fits-valid 24 rate s.position refl h pos most) p)

  pub in_block : (s : Sponge) (p : List ℕ) → s.position ≤ rate → (absorb_bytes (last_rounds 24) rate s p).position ≤ rate
  in_block s p h =
      subst (λ (n : ℕ). n ≤ rate) (sym (steps-position (last_rounds 24) xor_byte rate pos s.position s p (own rate s.position h)))
      (position-le rate (s.position + length p) pos)

  -- both, of a call
  pub absorbed : (s : Sponge) (p : List ℕ) (o : Outcome) → s.position ≤ rate → o ≡ absorb_call 24 rate s p → (o.state ≡ absorb_bytes (last_rounds 24) rate s p) × (o.state.position ≤ rate)
  absorbed s p o h e = let is = absorbs s p o h e in (is, subst (λ (t : Sponge). t.position ≤ rate) (sym is) (in_block s p h))

  -- two in a row
  pub both-absorbed : (s t : Sponge) (x y z : List ℕ) → t ≡ absorb_bytes (last_rounds 24) rate s x → x ++ y ≡ z
      → absorb_bytes (last_rounds 24) rate t y ≡ absorb_bytes (last_rounds 24) rate s z
  both-absorbed s t x y z e l =
      ap (λ (u : Sponge). absorb_bytes (last_rounds 24) rate u y) e ∙ sym (steps-append (last_rounds 24) xor_byte rate s x y) ∙ ap (absorb_bytes (last_rounds 24) rate s) l

  -- ---- left_encode, then the string

  pub string-absorbed : (s t : Sponge) (x : List ℕ) → t ≡ absorb_bytes (last_rounds 24) rate s (left_encode (8 * length x))
      → absorb_bytes (last_rounds 24) rate t x ≡ absorb_bytes (last_rounds 24) rate s (encode_string x)
  unfolding encode_string
  string-absorbed s t x e = ap (λ (u : Sponge). absorb_bytes (last_rounds 24) rate u x) e ∙ sym (steps-append (last_rounds 24) xor_byte rate s (left_encode (8 * length x)) x)

-- ---- whole blocks

pub encoded_few : (n : ℕ) → n ≤ key_limit → encoded_length n ≤ n + 9
encoded_few n h = omega (arith, left_short (8 * n) (omega arith))

left_some : (w : ℕ) (s : List ℕ) → 0 < length (left_encode w ++ s)
unfolding left_encode
left_some w s = omega arith

module _ (rate : ℕ) (pos : 0 < rate) where
  -- there are no more of them than bytes
  pub padded_few : rate ≤ 200 → (n : ℕ) → padded_blocks rate n ≤ n + 9
  padded_few most n =
      let g : Held rate (length (left_encode rate) + n) = held pos (omega (arith, left_least rate)) in
      let more : g.q ≤ g.q * rate = omega (arith, mul-le-mul_left g.q pos) in
      let short : length (left_encode rate) ≤ 9 = left_short rate (omega arith) in
      rw g.is (let l = g.lo in omega arith)

  blocks_index : (b : ℕ) → 0 < b → index_after rate (b * rate) ≡ b - 1
  blocks_index zero h = absurd (omega arith)
  blocks_index (suc q) h =
      let w : suc q * rate ≡ suc (q * rate + (rate - 1)) = omega arith in
      ap (index_after rate) w ∙ digits_div q (omega arith) ∙ omega arith

  blocks_position : (b : ℕ) → 0 < b → position_after rate (b * rate) ≡ rate
  blocks_position zero h = absurd (omega arith)
  blocks_position (suc q) h =
      let w : suc q * rate ≡ suc (q * rate + (rate - 1)) = omega arith in
      ap (position_after rate) w ∙ ap suc (digits_mod q (omega arith)) ∙ omega arith

  -- ---- the run that a prefix leaves

  abbrev P : List ℕ → List ℕ
  P = last_rounds 24

  abbrev run_at : Sponge → ℕ → Run
  run_at t n = record { lanes = t.value; position = t.position; phase = 0; absorbed = 0; squeezed = 0; permutations = n }

  pub start_is : (p : List ℕ) → start_run rate p ≡ run_at (absorb_bytes P rate fresh p) (index_after rate (length p))
  unfolding start_run
  start_is p =
      let e : 0 + added rate 0 (length p) ≡ index_after rate (length p) = added-index rate pos 0 (length p) ∙ ap (index_after rate) (zero-add (length p)) in
      ap (λ (s : Counted). record { lanes = s.value.0; position = s.position; phase = 0; absorbed = 0; squeezed = 0; permutations = s.value.1 })
      (steps-counted P xor_byte rate fresh 0 p ∙ ap (counted_from (absorb_bytes P rate fresh p)) e)

  -- of whole blocks
  whole-position : (p : List ℕ) (b : ℕ) → 0 < b → length p ≡ b * rate → (absorb_bytes P rate fresh p).position ≡ rate
  whole-position p b h e = steps-position P xor_byte rate pos 0 fresh p refl ∙ ap (position_after rate) (zero-add (length p) ∙ e) ∙ blocks_position b h

  pub start-whole : (p : List ℕ) (b : ℕ) → 0 < b → length p ≡ b * rate
      → start_run rate p ≡ run_at (record { value = (absorb_bytes P rate fresh p).value; position = rate }) (b - 1)
  start-whole p b h e =
      start_is p ∙ (λ i. run_at (record { value = (absorb_bytes P rate fresh p).value; position = whole-position p b h e i }) ((ap (index_after rate) e ∙ blocks_index b h) i))

  -- ---- the zeros of a bytepad: the first, and one after whole blocks

  bytepad_first : (v s : List ℕ) → absorb_bytes P rate (record { value = v; position = 0 }) (bytepad s rate)
      ≡ record { value = (absorb_bytes P rate (record { value = v; position = 0 }) (left_encode rate ++ s)).value; position = rate }
  unfolding bytepad
  bytepad_first v s = fill_block P rate pos v (left_encode rate ++ s) (left_some rate s)

  bytepad-after : (v s : List ℕ) → absorb_bytes P rate (record { value = v; position = rate }) (bytepad s rate)
      ≡ record { value = (absorb_bytes P rate (record { value = v; position = rate }) (left_encode rate ++ s)).value; position = rate }
  bytepad-after v s =
      let more : 0 < length (bytepad s rate) = rw (bytepad-length rate pos s) (omega (arith, mul-pos (padded-least rate pos (length s)) pos)) in
      steps_full P xor_byte rate pos v (bytepad s rate) more
      ∙ bytepad_first (P v) s
      ∙ ap (λ (w : Sponge). record { value = w.value; position = rate }) (sym (steps_full P xor_byte rate pos v (left_encode rate ++ s) (left_some rate s)))

  pub start_first : (s : List ℕ) (t : Sponge) → t ≡ absorb_bytes P rate fresh (left_encode rate ++ s)
      → run_at (record { value = t.value; position = rate }) (padded_blocks rate (length s) - 1) ≡ start_run rate (bytepad s rate)
  start_first s t e =
      let b : ℕ = padded_blocks rate (length s) in
      ap (λ (v : List ℕ). run_at (record { value = v; position = rate }) (b - 1)) (ap (λ (u : Sponge). u.value) e ∙ sym (ap (λ (u : Sponge). u.value) (bytepad_first fresh.value s)))
      ∙ sym (start-whole (bytepad s rate) b (padded-least rate pos (length s)) (bytepad-length rate pos s))

  -- left_encode(rate), N and S in a row, and the bytes counted by the lengths of N and S
  pub cshake-started : (n s : List ℕ) (t u v : Sponge) (x y b : ℕ)
      → t ≡ absorb_bytes P rate fresh (left_encode rate)
      → u ≡ absorb_bytes P rate t (encode_string n)
      → v ≡ absorb_bytes P rate u (encode_string s)
      → x ≡ encoded_length (length n)
      → y ≡ encoded_length (length s)
      → b ≡ padded_blocks rate (x + y)
      → run_at (record { value = v.value; position = rate }) (b - 1) ≡ start_run rate (bytepad (encode_string n ++ encode_string s) rate)
  cshake-started n s t u v x y b et eu ev ex ey eb =
      let m : List ℕ = encode_string n ++ encode_string s in
      let all : v ≡ absorb_bytes P rate fresh (left_encode rate ++ m) =
      ev
      ∙ ap (λ (w : Sponge). absorb_bytes P rate w (encode_string s)) (eu ∙ ap (λ (w : Sponge). absorb_bytes P rate w (encode_string n)) et)
      ∙ sym (steps-append P xor_byte rate (absorb_bytes P rate fresh (left_encode rate)) (encode_string n) (encode_string s))
      ∙ sym (steps-append P xor_byte rate fresh (left_encode rate) m) in
      let l : x + y ≡ length m = (λ i. (ex ∙ sym (string-length n)) i + (ey ∙ sym (string-length s)) i) ∙ sym (length-append (encode_string n) (encode_string s)) in
      ap (λ (k : ℕ). run_at (record { value = v.value; position = rate }) (k - 1)) (eb ∙ ap (padded_blocks rate) l) ∙ start_first m v all

  -- a second bytepad, after whole blocks
  start-second : (p s : List ℕ) (b : ℕ) → 0 < b → length p ≡ b * rate
      → run_at (record { value = (absorb_bytes P rate (record { value = (absorb_bytes P rate fresh p).value; position = rate }) (left_encode rate ++ s)).value; position = rate }) (b - 1 + padded_blocks rate (length s))
      ≡ start_run rate (p ++ bytepad s rate)
  start-second p s b h e =
      let n : ℕ = padded_blocks rate (length s) in
      let l : length (p ++ bytepad s rate) ≡ (b + n) * rate =
      length-append p (bytepad s rate) ∙ (λ i. e i + bytepad-length rate pos s i) ∙ sym (add-mul b n rate) in
      let k : b + n - 1 ≡ b - 1 + n = omega arith in
      let first : absorb_bytes P rate fresh p ≡ record { value = (absorb_bytes P rate fresh p).value; position = rate } =
      ap (λ (i : ℕ). record { value = (absorb_bytes P rate fresh p).value; position = i }) (whole-position p b h e) in
      let all = steps-append P xor_byte rate fresh p (bytepad s rate) ∙ ap (λ (w : Sponge). absorb_bytes P rate w (bytepad s rate)) first ∙ bytepad-after (absorb_bytes P rate fresh p).value s in
      sym (start-whole (p ++ bytepad s rate) (b + n) (omega arith) l ∙ (λ i. run_at (record { value = (all i).value; position = rate }) (k i)))

  -- its blocks are far fewer than 2^64
  pub started_few : rate ≤ 200 → (n s : List ℕ) (r : Run) → r ≡ start_run rate (bytepad (encode_string n ++ encode_string s) rate) → length n ≤ string_limit → length s ≤ string_limit
      → r.permutations ≤ length n + length s + 27
  started_few most n s r e h g =
      let m : List ℕ = encode_string n ++ encode_string s in
      let l : length m ≡ encoded_length (length n) + encoded_length (length s) = length-append (encode_string n) (encode_string s) ∙ (λ i. string-length n i + string-length s i) in
      let is : r.permutations ≡ padded_blocks rate (length m) - 1 =
      ap (λ (q : Run). q.permutations) (e ∙ start-whole (bytepad m rate) (padded_blocks rate (length m)) (padded-least rate pos (length m)) (bytepad-length rate pos m)) in
      let few : padded_blocks rate (length m) ≤ length m + 9 = padded_few most (length m) in
      let first : encoded_length (length n) ≤ length n + 9 = encoded_few (length n) (omega arith) in
      let second : encoded_length (length s) ≤ length s + 9 = encoded_few (length s) (omega arith) in
      omega (arith, l, is, few, first, second)

  -- what bytepad holds where the name is KMAC
  named : List ℕ → List ℕ
  named s = encode_string kmac_name ++ encode_string s

  -- left_encode(rate) and the key in a row, after that prefix
  pub kmac-started : (k s : List ℕ) (r : Run) (t u : Sponge) (x b : ℕ)
      → r ≡ start_run rate (bytepad (encode_string kmac_name ++ encode_string s) rate)
      → t ≡ absorb_bytes P rate (record { value = r.lanes; position = rate }) (left_encode rate)
      → u ≡ absorb_bytes P rate t (encode_string k)
      → x ≡ encoded_length (length k)
      → b ≡ padded_blocks rate x
      → record { lanes = u.value; position = r.position; phase = r.phase; absorbed = r.absorbed; squeezed = r.squeezed; permutations = r.permutations + b }
      ≡ start_run rate (kmac_prefix rate k s)
  unfolding kmac_prefix cshake_prefix named
  kmac-started k s r t u x b er et eu ex eb =
      let p : List ℕ = bytepad (named s) rate in
      let n : ℕ = padded_blocks rate (length (named s)) in
      let v : List ℕ = (absorb_bytes P rate fresh p).value in
      let first : r ≡ run_at (record { value = v; position = rate }) (n - 1) = er ∙ start-whole p n (padded-least rate pos (length (named s))) (bytepad-length rate pos (named s)) in
      let all : u ≡ absorb_bytes P rate (record { value = v; position = rate }) (left_encode rate ++ encode_string k) =
      eu
      ∙ ap (λ (w : Sponge). absorb_bytes P rate w (encode_string k)) (et ∙ ap (λ (q : Run). absorb_bytes P rate (record { value = q.lanes; position = rate }) (left_encode rate)) first)
      ∙ sym (steps-append P xor_byte rate (record { value = v; position = rate }) (left_encode rate) (encode_string k)) in
      let m : b ≡ padded_blocks rate (length (encode_string k)) = eb ∙ ap (padded_blocks rate) (ex ∙ sym (string-length k)) in
      (λ i. record {
        lanes = (all i).value;
        position = (first i).position;
        phase = (first i).phase;
        absorbed = (first i).absorbed;
        squeezed = (first i).squeezed;
        permutations = (first i).permutations + m i;
      })
      ∙ start-second p (encode_string k) n (padded-least rate pos (length (named s))) (bytepad-length rate pos (named s))
