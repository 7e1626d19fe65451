-- Five planes that were moved, each put through chi to its place, and the round constant: a round.
-- Assumes nothing.
use mathlib.Core.Path.{◌≡◌, refl, sym, ap, ap₂, ◌∙◌, subst}
use mathlib.Core.List.{List}
use Prim.Native.Nat.{ℕ, ◌+◌, ◌*◌, ◌%◌, ◌<◌}
use native.Mathlib.Nat.{zero-add}
use native.Mathlib.Omega.{arith}
use lib.Bits.{bit_xor}
use lib.Dec.{lit<}
use lib.ListN.{length, get_or, set}
use Rattle.keccak.specs.State.{from}
use Rattle.keccak.specs.Round.{rotl, parity, iota, round}
use Rattle.keccak.proofs.Grid.{from-lanes}
use Rattle.keccak.proofs.Steps.{parity_same, iota_is}
use Rattle.keccak.proofs.Planes as planes
use Rattle.abreast.specs.declared.round.Plane.{Plane}
use Rattle.abreast.specs.Four.{state_at}
use Rattle.abreast.specs.Inside.{One}
use Rattle.abreast.specs.Planes.{effect, turned, moved, mixed, placed}
use Rattle.abreast.proofs.Four.{one_put, one_then, one_xor}

-- what `put` writes, in its order
module _ (j y : ℕ) (b : Plane) (s : List ℕ) (hj : j < 4) (hy : y < 5) (hs : length s ≡ 100) where
  pub one_plane : (x0 x1 x2 x3 x4 v0 v1 v2 v3 v4 : ℕ)
      → x0 ≡ 4 * (5 * y + (0 + 2 * y) % 5) + j → x1 ≡ 4 * (5 * y + (1 + 2 * y) % 5) + j → x2 ≡ 4 * (5 * y + (2 + 2 * y) % 5) + j
      → x3 ≡ 4 * (5 * y + (3 + 2 * y) % 5) + j → x4 ≡ 4 * (5 * y + (4 + 2 * y) % 5) + j
      → v0 ≡ mixed b.0 b.1 b.2 → v1 ≡ mixed b.1 b.2 b.3 → v2 ≡ mixed b.2 b.3 b.4
      → v3 ≡ mixed b.3 b.4 b.0 → v4 ≡ mixed b.4 b.0 b.1
      → One j (placed y b) s (set (set (set (set (set s x0 v0) x1 v1) x2 v2) x3 v3) x4 v4)
  unfolding placed
  one_plane x0 x1 x2 x3 x4 v0 v1 v2 v3 v4 e0 e1 e2 e3 e4 f0 f1 f2 f3 f4 =
      let h0 : 5 * y + (0 + 2 * y) % 5 < 25 = omega arith in
      let h1 : 5 * y + (1 + 2 * y) % 5 < 25 = omega arith in
      let h2 : 5 * y + (2 + 2 * y) % 5 < 25 = omega arith in
      let h3 : 5 * y + (3 + 2 * y) % 5 < 25 = omega arith in
      let h4 : 5 * y + (4 + 2 * y) % 5 < 25 = omega arith in
      let p0 = one_put j (5 * y + (0 + 2 * y) % 5) _ x0 v0 s hj h0 hs e0 f0 in
      let p1 = one_put j (5 * y + (1 + 2 * y) % 5) _ x1 v1 _ hj h1 p0.words e1 f1 in
      let p2 = one_put j (5 * y + (2 + 2 * y) % 5) _ x2 v2 _ hj h2 p1.words e2 f2 in
      let p3 = one_put j (5 * y + (3 + 2 * y) % 5) _ x3 v3 _ hj h3 p2.words e3 f3 in
      let p4 = one_put j (5 * y + (4 + 2 * y) % 5) _ x4 v4 _ hj h4 p3.words e4 f4 in
      one_then j _ _ _ _ _ (one_then j _ _ _ _ _ (one_then j _ _ _ _ _ (one_then j _ _ _ _ _ p0 p1) p2) p3) p4

-- plane y of state a after theta, rho and pi
abbrev pub before : List ℕ → ℕ → Plane
before a y = moved a (effect a) y

-- the five planes of a, with d for theta's D, put through chi to their places in l, and the round constant
abbrev made : List ℕ → ℕ → Plane → List ℕ → List ℕ
made a rc d l =
    let t : List ℕ = placed 4 (moved a d 4) (placed 3 (moved a d 3) (placed 2 (moved a d 2) (placed 1 (moved a d 1) (placed 0 (moved a d 0) l)))) in
    set t 0 (bit_xor (get_or t 0 0) rc)

-- D[x] by the columns x - 1 and x + 1, as x + 4 and x + 1
abbrev between : List ℕ → ℕ → ℕ
between a x = bit_xor (parity a (x + 4)) (rotl (parity a (x + 1)) 1)

abbrev columns : List ℕ → Plane
columns a = record { 0 = between a 0; 1 = between a 1; 2 = between a 2; 3 = between a 3; 4 = between a 4 }

effect_columns : (a : List ℕ) → effect a ≡ columns a
unfolding effect
effect_columns a =
    λ i.
    record {
      0 = between a 0;
      1 = bit_xor (parity_same a 0 5 refl i) (rotl (parity a 2) 1);
      2 = bit_xor (parity_same a 1 6 refl i) (rotl (parity a 3) 1);
      3 = bit_xor (parity_same a 2 7 refl i) (rotl (parity a 4) 1);
      4 = bit_xor (parity_same a 3 8 refl i) (rotl (parity_same a 0 5 refl i) 1);
    }

made_round : (a : List ℕ) (rc : ℕ) (f : ℕ → ℕ) → made a rc (columns a) (from 0 25 f) ≡ round rc a
unfolding turned moved placed
made_round a rc f = ap (made a rc (columns a)) (from-lanes f) ∙ planes.planes_round a rc

state-from : (j : ℕ) (s : List ℕ) → state_at j s ≡ from 0 25 (λ i. get_or s (4 * i + j) 0)
unfolding state_at
state-from j s = refl

-- all five, put through chi to their places
abbrev all_placed : List ℕ → List ℕ
all_placed a = placed 4 (before a 4) (placed 3 (before a 3) (placed 2 (before a 2) (placed 1 (before a 1) (placed 0 (before a 0) a))))

planes_round : (j rc : ℕ) (s : List ℕ) → iota rc (all_placed (state_at j s)) ≡ round rc (state_at j s)
planes_round j rc s =
    let a : List ℕ = state_at j s in
    iota_is (all_placed a) rc ∙ ap₂ (made a rc) (effect_columns a) (state-from j s) ∙ made_round a rc (λ i. get_or s (4 * i + j) 0)

-- iota of state j
pub one_iota : (j rc : ℕ) (s : List ℕ) → j < 4 → length s ≡ 100 → One j (iota rc) s (set s j (bit_xor (get_or s j 0) rc))
one_iota j rc s hj hs =
    let p =
    subst (λ (n : ℕ). One j (λ l. set l 0 (bit_xor (get_or l 0 0) rc)) s (set s n (bit_xor (get_or s n 0) rc))) (zero-add j) (one_xor j 0 rc s hj (lit< tt) hs) in
    record { words = p.words; own = p.own ∙ sym (iota_is (state_at j s) rc); other = p.other }

-- a round of state j, from s by five planes and iota to t
module _ (j rc : ℕ) (s s0 s1 s2 s3 s4 t : List ℕ) (b0 b1 b2 b3 b4 : Plane) where
  pub one_round : b0 ≡ before (state_at j s) 0 → b1 ≡ before (state_at j s) 1 → b2 ≡ before (state_at j s) 2
      → b3 ≡ before (state_at j s) 3 → b4 ≡ before (state_at j s) 4
      → One j (placed 0 b0) s s0 → One j (placed 1 b1) s0 s1 → One j (placed 2 b2) s1 s2 → One j (placed 3 b3) s2 s3 → One j (placed 4 b4) s3 s4
      → One j (iota rc) s4 t → One j (round rc) s t
  one_round e0 e1 e2 e3 e4 p0 p1 p2 p3 p4 q =
      let all : One j (λ a. iota rc (placed 4 b4 (placed 3 b3 (placed 2 b2 (placed 1 b1 (placed 0 b0 a)))))) s t =
      one_then j _ _ s s4 t (one_then j _ _ s s3 s4 (one_then j _ _ s s2 s3 (one_then j _ _ s s1 s2 (one_then j _ _ s s0 s1 p0 p1) p2) p3) p4) q in
      record {
        words = all.words;
        own = all.own
            ∙ (λ i. iota rc (placed 4 (e4 i) (placed 3 (e3 i) (placed 2 (e2 i) (placed 1 (e1 i) (placed 0 (e0 i) (state_at j s)))))))
            ∙ planes_round j rc s;
        other = all.other;
      }
