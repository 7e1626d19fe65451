-- What four fresh states hold after their chunks are the chunks' chaining values; values absorbed one after the other.
-- Assumes nothing.
use mathlib.Core.Path.{◌≡◌, refl, sym, ap, ap₂, ◌∙◌, subst}
use mathlib.Core.List.{List, ◌++◌}
use Prim.Native.Nat.{ℕ, zero, suc, ◌+◌, ◌-◌, ◌*◌, ◌%◌, ◌<◌, ◌≤◌}
use native.Mathlib.Nat.{suc-mul, zero-mul}
use native.Mathlib.Numerals.{add-one}
use native.Mathlib.Omega.{arith}
use lib.Dec.{lit<}
use lib.ListN.{length, get_or, drop, replicate, get_or-replicate, length-replicate}
use lib.Seq.{ext_get_or, drop-drop}
use Rattle.keccak.specs.Permutation.{permuted}
use Rattle.abreast.specs.Four.{state_at}
use Rattle.abreast.proofs.Four.{state-length, state_at_lem}
use Rattle.sponge.specs.Published.{xor_byte, zero_lanes, bytes_from}
use Rattle.sponge.specs.Four.{read_output}
use Rattle.sponge.specs.Model.{Sponge, fresh, absorb_bytes, pad, squeeze_bytes, Outcome, absorb_call}
use Rattle.sponge.proofs.Published.{squeeze_in}
use Rattle.sponge.proofs.Waiting.{steps-append}
use Rattle.sponge.proofs.Valid.{zero_lanes_lem}
use Rattle.sponge.proofs.Abreast.{read_fits, read_done}
use Rattle.turboshake.specs.Published.{turboshake_rounds}
use Rattle.turboshake.proofs.Published.{squeeze-turboshake}
use Rattle.kangarootwelve.specs.Published.{chunk, intermediate_domain}
use Rattle.kangarootwelve.specs.Leaves.{chunk_at, Sponges, states_bytes, open_values, values_of, cleared}
use Rattle.kangarootwelve.proofs.Nodes.{absorbed_is}

-- ---- zero words are four fresh states

-- what is left of four states that were cleared
pub cleared_is : (s t : List ℕ) → t ≡ replicate (length s) 0 → length s ≡ 100 → t ≡ cleared
unfolding cleared
cleared_is s t e h = e ∙ ap (λ (m : ℕ). replicate {A = ℕ} m 0) h

pub cleared-length : length cleared ≡ 100
unfolding cleared
cleared-length = length-replicate {A = ℕ} 100 0

cleared_at : (i : ℕ) → i < 100 → get_or cleared i 0 ≡ 0
unfolding cleared
cleared_at i h = get_or-replicate {A = ℕ} 100 i 0 0 h

pub zero-state : (k : ℕ) → k < 4 → state_at k cleared ≡ zero_lanes
zero-state k h =
    let l : List ℕ = replicate 25 0 in
    ext_get_or 0 (state_at k cleared) l (state-length k cleared ∙ sym (length-replicate {A = ℕ} 25 0))
    (λ i g.
    let g' : i < 25 = subst (λ (n : ℕ). i < n) (state-length k cleared) g in
    let g'' : 4 * i + k < 100 = omega arith in
    state_at_lem k cleared i g' ∙ cleared_at (4 * i + k) g'' ∙ sym (get_or-replicate {A = ℕ} 25 i 0 0 g'))
    ∙ sym zero_lanes_lem

-- ---- the values of padded states, and of chunks

-- t is what the padding leaves of s
pub open_values_lem : (rate n : ℕ) → 0 < rate → n ≤ rate → (s t : List ℕ) (p : ℕ) → Sponges (λ _ a. pad permuted rate a intermediate_domain) s p t 0
    → (c j : ℕ) → j + c ≤ 4 → states_bytes n t c j ≡ open_values rate n s p c j
open_values_lem rate n pos few s t p e zero j h = refl
open_values_lem rate n pos few s t p e (suc c) j h =
    ap₂ (λ (x y : List ℕ). x ++ y)
    (sym (squeeze_in permuted rate pos n (state_at j t) 0 (omega arith)) ∙ ap (squeeze_bytes permuted rate n) (e.each j (omega arith)))
    (open_values_lem rate n pos few s t p e c (suc j) (omega arith))

module _ (rate : ℕ) (chunks s t : List ℕ) (p : ℕ) (z : s ≡ cleared) (e : Sponges (λ k a. absorb_bytes permuted rate a (chunk_at k chunks)) s 0 t p) where
  -- the sponge of chunk k, before its padding
  leaf_is : (k : ℕ) → k < 4 → record { value = state_at k t; position = p } ≡ absorb_bytes permuted rate fresh (chunk_at k chunks)
  leaf_is k h = e.each k h ∙ ap (λ (l : List ℕ). absorb_bytes permuted rate (record { value = l; position = 0 }) (chunk_at k chunks)) (ap (state_at k) z ∙ zero-state k h)

  chunk_values : (n : ℕ) → 0 < rate → (c j : ℕ) → j + c ≤ 4 → open_values rate n t p c j ≡ values_of rate n c (drop (j * chunk) chunks)
  unfolding chunk_at
  chunk_values n pos zero j h = refl
  chunk_values n pos (suc c) j h =
      let next : drop (suc j * chunk) chunks ≡ drop chunk (drop (j * chunk) chunks) =
      ap (λ (m : ℕ). drop m chunks) (suc-mul j chunk) ∙ sym (drop-drop chunk (j * chunk) chunks) in
      ap₂ (λ (x y : List ℕ). x ++ y)
      (ap (λ (a : Sponge). squeeze_bytes permuted rate n (pad permuted rate a intermediate_domain)) (leaf_is j (omega arith)) ∙ squeeze-turboshake rate pos (chunk_at j chunks) intermediate_domain n)
      (chunk_values n pos c (suc j) (omega arith) ∙ ap (values_of rate n c) next)

  -- the first c of the four
  pub first_values : (n : ℕ) → 0 < rate → (c : ℕ) → c ≤ 4 → open_values rate n t p c 0 ≡ values_of rate n c chunks
  first_values n pos c h = chunk_values n pos c 0 (omega arith) ∙ ap (λ (m : ℕ). values_of rate n c (drop m chunks)) (zero-mul chunk)

-- the fourth chunk's sponge, taken out of the slice t
pub open_leaf : (rate : ℕ) (chunks s t lanes : List ℕ) (p : ℕ) → Sponges (λ k a. absorb_bytes permuted rate a (chunk_at k chunks)) s 0 t p → lanes ≡ state_at 3 t → s ≡ cleared
    → record { value = lanes; position = p } ≡ absorb_bytes permuted rate fresh (chunk_at 3 chunks)
open_leaf rate chunks s t lanes p e is z = ap (λ (l : List ℕ). record { value = l; position = p }) is ∙ leaf_is rate chunks s t p z e 3 (lit< tt)

-- ---- the loop that absorbs them

-- the value v of state j, read from the slice t into what held u
pub value_is : (t u v : List ℕ) (j n : ℕ) → length t ≡ 100 → j < 4 → length u ≡ n → n ≤ 200 → n % 8 ≡ 0 → v ≡ read_output t j u → v ≡ bytes_from (state_at j t) 0 n
value_is t u v j n ht hj hu most whole e =
    let fits = read_fits (length t) j (length u) ht hj (rw hu most) (rw hu whole) in
    e ∙ sym (read_done t j u 0 (sym fits) refl) ∙ ap (λ (m : ℕ). bytes_from (state_at j t) 0 m) hu

pub values_step : (rate : ℕ) → 0 < rate → rate ≤ 200 → (n : ℕ) (t : List ℕ) (count j : ℕ) (s : Sponge) (v : List ℕ) (o : Outcome) → j < count → s.position ≤ rate
    → v ≡ bytes_from (state_at j t) 0 n → o ≡ absorb_call turboshake_rounds rate s v
    → absorb_bytes permuted rate o.state (states_bytes n t (count - (j + 1)) (j + 1)) ≡ absorb_bytes permuted rate s (states_bytes n t (count - j) j)
values_step rate pos most n t count j s v o h g ev eo =
    let c : ℕ = count - (j + 1) in
    let e : count - j ≡ suc c = omega arith in
    let w : List ℕ = bytes_from (state_at j t) 0 n in
    ap (λ (u : Sponge). absorb_bytes permuted rate u (states_bytes n t c (j + 1))) (absorbed_is rate pos most s v o g eo ∙ ap (absorb_bytes permuted rate s) ev)
    ∙ ap (λ (m : ℕ). absorb_bytes permuted rate (absorb_bytes permuted rate s w) (states_bytes n t c m)) (add-one j)
    ∙ sym (steps-append permuted xor_byte rate s w (states_bytes n t c (suc j)))
    ∙ ap (λ (m : ℕ). absorb_bytes permuted rate s (states_bytes n t m j)) (sym e)
