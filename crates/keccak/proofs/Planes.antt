-- The planes of a round: what `theta_effect`, `theta_rho_pi` and `chi` ensure, put together.
-- Assumes nothing.
use mathlib.Core.Path.{◌≡◌, refl, ap, ◌∙◌}
use mathlib.Core.List.{List, [], ◌∷◌}
use Prim.Native.Nat.{ℕ, ◌+◌, ◌*◌, ◌%◌, ◌^◌, ◌<◌}
use native.Mathlib.Omega.{arith}
use lib.Bits.{bit_and, bit_xor, xor_lt}
use lib.Dec.{lit<}
use Rattle.keccak.specs.State.{State, lane, grid, from}
use Rattle.keccak.specs.Round.{rotl, complement, parity, offsets, theta, rho, pi, chi, iota, round}
use Rattle.keccak.specs.declared.round.Plane.{Plane}
use Rattle.keccak.proofs.Words.{rotl-lt}
use Rattle.keccak.proofs.Offsets.{offset_small}
use Rattle.keccak.proofs.States.{lane-lt, parity-lt}
use Rattle.keccak.proofs.Complement.{complement_twice, xor-complement, complement-xor, rotl-complement}

-- ---- what the three functions ensure of their results, in the contracts' order

-- of `theta_effect`: D, made with C[1] inverted
abbrev pub IsEffect : List ℕ → Plane → Type 0
IsEffect a d =
    (d.0 ≡ bit_xor (parity a 4) (rotl (complement (parity a 1)) 1))
    × ((d.1 ≡ bit_xor (parity a 0) (rotl (parity a 2) 1))
    × ((d.2 ≡ bit_xor (complement (parity a 1)) (rotl (parity a 3) 1))
    × ((d.3 ≡ bit_xor (parity a 2) (rotl (parity a 4) 1))
    × (d.4 ≡ bit_xor (parity a 3) (rotl (parity a 0) 1)))))

-- lane (k, k + 2 y) after theta and rho where d is D[k], and inverted where d is D[k] inverted
abbrev theta_rho : List ℕ → ℕ → ℕ → ℕ → ℕ
theta_rho a y k d = rotl (bit_xor (lane a k (k + 2 * y)) d) (lane offsets k (k + 2 * y))

-- of `theta_rho_pi`, for plane y
abbrev pub IsMoved : List ℕ → Plane → ℕ → Plane → Type 0
IsMoved a d y b =
    (b.0 ≡ theta_rho a y 0 d.0)
    × ((b.1 ≡ theta_rho a y 1 d.1) × ((b.2 ≡ theta_rho a y 2 d.2) × ((b.3 ≡ theta_rho a y 3 d.3) × (b.4 ≡ theta_rho a y 4 d.4))))

-- of `chi`
abbrev pub IsMixed : Plane → Plane → Type 0
IsMixed b e =
    (e.0 ≡ bit_xor (complement b.0) (bit_and (complement b.1) (complement b.2)))
    × ((e.1 ≡ bit_xor b.1 (bit_and b.2 b.3))
    × ((e.2 ≡ bit_xor (complement b.2) (bit_and (complement b.3) b.4))
    × ((e.3 ≡ bit_xor b.3 (bit_and (complement b.4) (complement b.0)))
    × (e.4 ≡ bit_xor b.4 (bit_and b.0 b.1)))))

-- ---- the planes that the definition has

-- D[x]
abbrev effect : List ℕ → ℕ → ℕ
effect a x = bit_xor (parity a (x + 4)) (rotl (parity a (x + 1)) 1)

-- lane k of plane y after theta, rho and pi
abbrev lane_before : List ℕ → ℕ → ℕ → ℕ
lane_before a y k = theta_rho a y k (effect a k)

-- what chi makes of the lanes k, l and m of it
abbrev lane-after : List ℕ → ℕ → ℕ → ℕ → ℕ → ℕ
lane-after a y k l m = bit_xor (lane_before a y k) (bit_and (complement (lane_before a y l)) (lane_before a y m))

-- plane y after chi; its lane k stands at x = k + 2 y
abbrev pub plane : List ℕ → ℕ → Plane
plane a y = record { 0 = lane-after a y 0 1 2; 1 = lane-after a y 1 2 3; 2 = lane-after a y 2 3 4; 3 = lane-after a y 3 4 0; 4 = lane-after a y 4 0 1 }

-- the 25 lanes of five such planes, each at its place, with the round constant
abbrev pub state : Plane → Plane → Plane → Plane → Plane → ℕ → List ℕ
state p q r s t rc =
    bit_xor p.0 rc ∷ p.1 ∷ p.2 ∷ p.3 ∷ p.4 ∷ q.3 ∷ q.4 ∷ q.0 ∷ q.1 ∷ q.2 ∷ r.1 ∷ r.2 ∷ r.3 ∷ r.4 ∷ r.0
    ∷ s.4 ∷ s.0 ∷ s.1 ∷ s.2 ∷ s.3 ∷ t.2 ∷ t.3 ∷ t.4 ∷ t.0 ∷ t.1 ∷ []

pub planes_round : (a : List ℕ) (rc : ℕ) → state (plane a 0) (plane a 1) (plane a 2) (plane a 3) (plane a 4) rc ≡ round rc a
unfolding round iota chi pi rho theta grid from
planes_round a rc = refl

-- ---- the functions' planes are the definition's

plane_same : (p q : Plane) → p.0 ≡ q.0 → p.1 ≡ q.1 → p.2 ≡ q.2 → p.3 ≡ q.3 → p.4 ≡ q.4 → p ≡ q
plane_same p q e0 e1 e2 e3 e4 = λ i. record { 0 = e0 i; 1 = e1 i; 2 = e2 i; 3 = e3 i; 4 = e4 i }

module _ (a : List ℕ) (s : State a) where
  effect-lt : (x : ℕ) → effect a x < 2 ^ 64
  effect-lt x = xor_lt 64 _ _ (parity-lt a s (x + 4)) (rotl-lt _ 1 (parity-lt a s (x + 1)))

  lane_before_lt : (y k : ℕ) → lane_before a y k < 2 ^ 64
  lane_before_lt y k = rotl-lt _ _ (xor_lt 64 _ _ (lane-lt a s k (k + 2 * y)) (effect-lt k))

  -- a lane that takes up an inverted D comes out inverted
  inverted : (y k d b : ℕ) → d ≡ complement (effect a k) → b ≡ theta_rho a y k d → b ≡ complement (lane_before a y k)
  inverted y k d b ed eb =
      let x : ℕ = lane a k (k + 2 * y) in
      let n : ℕ = lane offsets k (k + 2 * y) in
      eb ∙ ap (theta_rho a y k) ed ∙ ap (λ (w : ℕ). rotl w n) (xor-complement x (effect a k) (lane-lt a s k (k + 2 * y)) (effect-lt k))
      ∙ rotl-complement (bit_xor x (effect a k)) n (xor_lt 64 _ _ (lane-lt a s k (k + 2 * y)) (effect-lt k)) (offset_small (k % 5 + 5 * ((k + 2 * y) % 5)) (omega arith))

  plain : (y k b : ℕ) → b ≡ complement (lane_before a y k) → complement b ≡ lane_before a y k
  plain y k b e = ap complement e ∙ complement_twice (lane_before a y k) (lane_before_lt y k)

  -- D[0] and D[2] are inverted, as C[1] is. `parity` is unfolded where x + 4 or x + 1 passes 4: parity a 6 is parity a 1
  d0_inverted : (d : Plane) → IsEffect a d → d.0 ≡ complement (effect a 0)
  d0_inverted d h =
      h.0 ∙ ap (bit_xor (parity a 4)) (rotl-complement (parity a 1) 1 (parity-lt a s 1) (lit< tt))
      ∙ xor-complement (parity a 4) (rotl (parity a 1) 1) (parity-lt a s 4) (rotl-lt _ 1 (parity-lt a s 1))

  d2_inverted : (d : Plane) → IsEffect a d → d.2 ≡ complement (effect a 2)
  unfolding parity
  d2_inverted d h = h.1.1.0 ∙ complement-xor (parity a 1) (rotl (parity a 3) 1) (parity-lt a s 1) (rotl-lt _ 1 (parity-lt a s 3))

  pub plane_is : (d b e : Plane) (y : ℕ) → IsEffect a d → IsMoved a d y b → IsMixed b e → e ≡ plane a y
  unfolding parity
  plane_is d b e y hd hb he =
      let b0 : b.0 ≡ complement (lane_before a y 0) = inverted y 0 d.0 b.0 (d0_inverted d hd) hb.0 in
      let b1 : b.1 ≡ lane_before a y 1 = hb.1.0 ∙ ap (theta_rho a y 1) hd.1.0 in
      let b2 : b.2 ≡ complement (lane_before a y 2) = inverted y 2 d.2 b.2 (d2_inverted d hd) hb.1.1.0 in
      let b3 : b.3 ≡ lane_before a y 3 = hb.1.1.1.0 ∙ ap (theta_rho a y 3) hd.1.1.1.0 in
      let b4 : b.4 ≡ lane_before a y 4 = hb.1.1.1.1 ∙ ap (theta_rho a y 4) hd.1.1.1.1 in
      let n0 : complement b.0 ≡ lane_before a y 0 = plain y 0 b.0 b0 in
      let n2 : complement b.2 ≡ lane_before a y 2 = plain y 2 b.2 b2 in
      let e0 : e.0 ≡ lane-after a y 0 1 2 = he.0 ∙ cc (n0, b1, n2) in
      let e1 : e.1 ≡ lane-after a y 1 2 3 = he.1.0 ∙ cc (b1, b2, b3) in
      let e2 : e.2 ≡ lane-after a y 2 3 4 = he.1.1.0 ∙ cc (n2, b3, b4) in
      let e3 : e.3 ≡ lane-after a y 3 4 0 = he.1.1.1.0 ∙ cc (b3, b4, n0) in
      let e4 : e.4 ≡ lane-after a y 4 0 1 = he.1.1.1.1 ∙ cc (b4, b0, b1) in
      plane_same e (plane a y) e0 e1 e2 e3 e4
