-- What the position and the permutations of a sponge are, told by totals, where a prefix of whole blocks went before the message.
-- Assumes nothing.
use mathlib.Core.Path.{◌≡◌, refl, sym, ap, ◌∙◌}
use mathlib.Core.List.{List}
use Prim.Native.Nat.{ℕ, suc, ◌+◌, ◌-◌, ◌*◌, ◌/◌, ◌<◌}
use native.Mathlib.Nat.{zero-add, add-zero, add_assoc, add_comm, add-mul-div_right, mul-add-mod_self_right}
use native.Mathlib.Omega.{arith}
use lib.ListN.{length}
use Rattle.keccak.specs.Permutation.{last_rounds}
use Rattle.sponge.specs.Published.{xor_byte}
use Rattle.sponge.specs.Waiting.{steps, position_after}
use Rattle.sponge.specs.Model.{pad_with, after_bytes}
use Rattle.sponge.specs.Count.{counted, uncounted, Counted, sponge_of, fresh_counted, open_count, closed_count}
use Rattle.sponge.proofs.Position.{steps-position, after-position}
use Rattle.sponge.proofs.Count.{steps-counted, pad-counted, after-counted, added-index, pad_count, squeeze_count}
use Rattle.sponge.proofs.Valid.{pad-position}

-- ---- a state that the totals tell, but for e permutations more

module _ (rate : ℕ) (pos : 0 < rate) where
  pub record Told (e place count : ℕ) (s : Counted) : Type 0 where
    pub position_is : s.position ≡ place
    pub count_is : s.value.1 ≡ e + count

  -- after bytes, after the padding, and after bytes squeezed
  pub absorb-told : (e n : ℕ) (s : Counted) (x : List ℕ) → Told e (position_after rate n) (open_count rate n) s
      → Told e (position_after rate (n + length x)) (open_count rate (n + length x)) (steps (counted (last_rounds 24)) (uncounted xor_byte) rate s x)
  absorb-told e n s x t = record {
    position_is = steps-position (counted (last_rounds 24)) (uncounted xor_byte) rate pos n s x t.position_is;
    count_is =
        ap (λ (u : Counted). u.value.1) (steps-counted (last_rounds 24) xor_byte rate (sponge_of s) s.value.1 x)
        ∙ rw (t.position_is, t.count_is) (add_assoc e (open_count rate n) _) ∙ ap (λ (k : ℕ). e + k) (added-index rate pos n (length x));
  }

  pub pad-told : (e n : ℕ) (s : Counted) (d : ℕ) → Told e (position_after rate n) (open_count rate n) s
      → Told e 0 (closed_count rate n 0) (pad_with (counted (last_rounds 24)) rate (uncounted xor_byte) s d)
  pad-told e n s d t =
      let c = pad-counted (last_rounds 24) xor_byte rate (sponge_of s) s.value.1 d in
      record {
        position_is = ap (λ (u : Counted). u.position) c ∙ pad-position (last_rounds 24) rate (sponge_of s) d;
        count_is = ap (λ (u : Counted). u.value.1) c ∙ rw (t.position_is, t.count_is) (add_assoc e (open_count rate n) _) ∙ ap (λ (k : ℕ). e + k) (pad_count rate pos n);
      }

  pub after-told : (e n j k : ℕ) (s : Counted) → Told e (position_after rate j) (closed_count rate n j) s
      → Told e (position_after rate (j + k)) (closed_count rate n (j + k)) (after_bytes (counted (last_rounds 24)) rate k s)
  after-told e n j k s t =
      let c = after-counted (last_rounds 24) rate k (sponge_of s) s.value.1 in
      record {
        position_is = ap (λ (u : Counted). u.position) c ∙ after-position (last_rounds 24) rate pos j (sponge_of s) k t.position_is;
        count_is = ap (λ (u : Counted). u.value.1) c ∙ rw (t.position_is, t.count_is) (add_assoc e (closed_count rate n j) _) ∙ ap (λ (k : ℕ). e + k) (squeeze_count rate pos n j k);
      }

  -- blocks before the last of a prefix: each is a permutation, and none moves the position
  pub blocks_position : (e m : ℕ) → position_after rate (suc e * rate + m) ≡ position_after rate (rate + m)
  blocks_position e m =
      let w : suc e * rate + m ≡ suc (e * rate + (rate - 1 + m)) = omega arith in
      let v : rate + m ≡ suc (rate - 1 + m) = omega arith in
      rw (w, v) (ap suc (mul-add-mod_self_right e rate (rate - 1 + m)))

  pub blocks_count : (e m : ℕ) → open_count rate (suc e * rate + m) ≡ e + open_count rate (rate + m)
  blocks_count e m =
      let w : suc e * rate + m ≡ suc (e * rate + (rate - 1 + m)) = omega arith in
      let v : rate + m ≡ suc (rate - 1 + m) = omega arith in
      rw (w, v) (ap (λ (n : ℕ). n / rate) (add_comm (e * rate) (rate - 1 + m)) ∙ add-mul-div_right (rate - 1 + m) e pos ∙ add_comm ((rate - 1 + m) / rate) e)

  -- a prefix of suc e blocks
  pub start-told : (e : ℕ) (p : List ℕ) → length p ≡ suc e * rate → Told e (position_after rate rate) (open_count rate rate) (steps (counted (last_rounds 24)) (uncounted xor_byte) rate fresh_counted p)
  start-told e p l =
      let t = absorb-told 0 0 fresh_counted p (record { position_is = refl; count_is = refl }) in
      let n : 0 + length p ≡ suc e * rate + 0 = zero-add (length p) ∙ l ∙ sym (add-zero (suc e * rate)) in
      record {
        position_is = t.position_is ∙ ap (position_after rate) n ∙ blocks_position e 0 ∙ ap (position_after rate) (add-zero rate);
        count_is = t.count_is ∙ zero-add _ ∙ ap (open_count rate) n ∙ blocks_count e 0 ∙ ap (λ (k : ℕ). e + open_count rate k) (add-zero rate);
      }
