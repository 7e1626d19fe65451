-- The fold that waits does what the pieces, cut beforehand, do.
-- Assumes nothing.
use mathlib.Core.Path.{◌≡◌, refl, sym, ap, ◌∙◌}
use mathlib.Core.List.{List, [], ◌∷◌, ◌++◌}
use Prim.Native.Nat.{ℕ, zero, suc, ◌+◌, ◌-◌, ◌*◌, ◌%◌, ◌≤◌, ◌<◌}
use native.Mathlib.Nat.{zero-add, suc-add, add-suc, add-zero, zero-mul, sub-zero, div-add-mod', mod-lt}
use native.Mathlib.Omega.{arith}
use lib.ListN.{length, take, drop, take-append-drop, length-drop, drop_of_length-le}
use lib.Seq.{take_all, length-take-le, drop-drop}
use borrow.Author.Tests.{eq-eqb, ne_eqb}
use Rattle.sponge.specs.Cut.{ceil, pieces, puts}
use Rattle.sponge.specs.Waiting.{At, ready, step, steps}

-- n bytes, n > 0, are held by q whole pieces and a last one of 1 to r bytes
pub record Held (r n : ℕ) : Type 0 where
  pub q : ℕ
  pub is : ceil r n ≡ suc q
  pub lo : q * r < n
  pub hi : n ≤ suc q * r

pub held : {r n : ℕ} → 0 < r → 0 < n → Held r n
held {r} {n} p h = by (ceil r n) refl (div-add-mod' (n + (r - 1)) r) (mod-lt (n + (r - 1)) p)
  where
    by : (k : ℕ) → ceil r n ≡ k → k * r + (n + (r - 1)) % r ≡ n + (r - 1) → (n + (r - 1)) % r < r → Held r n
    by zero e w l = absurd (omega arith)
    by (suc q) e w l = record { q = q; is = e; lo = omega arith; hi = omega arith }

module _ {X : Type 0} (full : X → X) (put : X → ℕ → ℕ → X) (r : ℕ) where
  pub steps-append : (s : At X) (a b : List ℕ) → steps full put r s (a ++ b) ≡ steps full put r (steps full put r s a) b
  steps-append s [] b = refl
  steps-append s (x ∷ a) b = steps-append (step full put r s x) a b

  -- inside a piece nothing is turned over
  pub step_in : (x : X) (i b : ℕ) → i < r
      → step full put r (record { value = x; position = i }) b ≡ record { value = put x i b; position = suc i }
  step_in x i b h = rw (ne_eqb i r (omega arith))

  pub steps_in : (x : X) (i : ℕ) (s : List ℕ) → i + length s ≤ r
      → steps full put r (record { value = x; position = i }) s ≡ record { value = puts put x i s; position = i + length s }
  steps_in x i [] h = rw add-zero
  steps_in x i (b ∷ s) h = rw (step_in x i b (omega arith), steps_in (put x i b) (suc i) s (omega arith), suc-add, add-suc)

  -- a full piece that gets a byte: as if it had been turned over before
  pub steps_full : 0 < r → (x : X) (s : List ℕ) → 0 < length s
      → steps full put r (record { value = x; position = r }) s ≡ steps full put r (record { value = full x; position = 0 }) s
  steps_full p x [] h = absurd (let z : 1 ≤ 0 = h in omega arith)
  steps_full p x (b ∷ s) h = rw (eq-eqb r r refl, ne_eqb 0 r (omega arith))

  -- a whole piece, and then more
  pub steps_over : 0 < r → (x : X) (s : List ℕ) → r < length s
      → steps full put r (record { value = x; position = 0 }) s ≡ steps full put r (record { value = full (puts put x 0 (take r s)); position = 0 }) (drop r s)
  steps_over p x s h =
      let whole : 0 + length (take r s) ≡ r = zero-add _ ∙ length-take-le r s (omega arith) in
      ap (λ (l : List ℕ). steps full put r (record { value = x; position = 0 }) l) (sym (take-append-drop r s))
      ∙ steps-append (record { value = x; position = 0 }) (take r s) (drop r s)
      ∙ ap (λ (a : At X). steps full put r a (drop r s)) (steps_in x 0 (take r s) (omega arith))
      ∙ ap (λ (k : ℕ). steps full put r (record { value = puts put x 0 (take r s); position = k }) (drop r s)) whole
      ∙ steps_full p (puts put x 0 (take r s)) (drop r s) (simp length-drop (omega arith))

  -- the pieces one after the other, each turned over before the next
  abbrev pub walk : X → List ℕ → List (List ℕ) → X
  walk x p [] = puts put x 0 p
  walk x p (q ∷ ps) = walk (full (puts put x 0 p)) q ps

  pub steps-pieces : 0 < r → (n : ℕ) (x : X) (s : List ℕ) → n * r < length s → length s ≤ suc n * r
      → steps full put r (record { value = x; position = 0 }) s ≡ record { value = walk x (take r s) (pieces n r (drop r s)); position = length s - n * r }
  steps-pieces p zero x s lo hi = rw (steps_in x 0 s (omega arith), take_all r s (omega arith), zero-add, zero-mul, sub-zero)
  steps-pieces p (suc n) x s lo hi =
      rw (steps_over p x s (omega arith), steps-pieces p n (full (puts put x 0 (take r s))) (drop r s) (simp length-drop (omega arith)) (simp length-drop (omega arith)))
      (let e : length (drop r s) - n * r ≡ length s - suc n * r = simp length-drop (omega arith) in rw e)

  -- ---- a loop over the pieces: u is s after the test for a full piece, and k bytes of p from index i on have room in the piece

  pub steps_part : (s u : At X) → u ≡ ready full r s → u.position < r → (p : List ℕ) (i k : ℕ) → i < length p → u.position + k ≤ r → i + k ≤ length p
      → steps full put r (record { value = puts put u.value u.position (take k (drop i p)); position = u.position + k }) (drop (i + k) p) ≡ steps full put r s (drop i p)
  steps_part s u e h p i k hi hk hl =
      let n : length (take k (drop i p)) ≡ k = length-take-le k (drop i p) (simp length-drop (omega arith)) in
      let room : u.position + length (take k (drop i p)) ≤ r = omega arith in
      ap (λ (j : ℕ). steps full put r (record { value = puts put u.value u.position (take k (drop i p)); position = u.position + j }) (drop (i + k) p)) (sym n)
      ∙ ap (λ (t : At X). steps full put r t (drop (i + k) p)) (sym (steps_in u.value u.position (take k (drop i p)) room))
      ∙ ap (steps full put r (steps full put r u (take k (drop i p)))) (sym (drop-drop k i p))
      ∙ sym (steps-append u (take k (drop i p)) (drop k (drop i p)))
      ∙ ap (steps full put r u) (take-append-drop k (drop i p))
      ∙ sym (first (drop i p) (simp length-drop (omega arith)))
    where
      again : ready full r s ≡ ready full r u
      again = sym e ∙ rw (ne_eqb u.position r (λ e. omega arith))

      first : (t : List ℕ) → 0 < length t → steps full put r s t ≡ steps full put r u t
      first [] g = absurd (let z : 1 ≤ 0 = g in omega arith)
      first (b ∷ t) g = rw again

  -- no bytes are left
  pub steps_done : (s : At X) (p : List ℕ) (i : ℕ) → length p ≤ i → steps full put r s (drop i p) ≡ s
  steps_done s p i h = ap (steps full put r s) (drop_of_length-le p h)
