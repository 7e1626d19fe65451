-- iota undoes itself; the round, the rounds over any constants, and the last n of the 24 are undone by their inverses, and undo them.
-- Assumes nothing.
use mathlib.Core.Path.{◌≡◌, sym, ap, ◌∙◌, subst}
use mathlib.Core.List.{List, [], ◌∷◌}
use Prim.Native.Nat.{ℕ, suc, ◌-◌, ◌^◌, ◌<◌, ◌≤◌, suc-le-suc}
use native.Mathlib.Nat.{zero-lt-suc}
use native.Mathlib.Decide.{dec_lt}
use native.Mathlib.Omega.{arith}
use borrow.Author.Tests.{le-leb, lt-leb}
use lib.Bits.{bit_xor}
use lib.ListN.{length, get_or, set, drop}
use lib.Seq.{set-get_or, set-set, get_or-set_same}
use Rattle.keccak.specs.State.{State}
use Rattle.keccak.specs.Round.{theta, rho, pi, chi, iota, round}
use Rattle.keccak.specs.Permutation.{rounds, round_constants, last_rounds}
use Rattle.keccak.proofs.Xor.{xor_again}
use Rattle.keccak.proofs.Rounds.{last_rounds_lem, last_none}
use Rattle.keccak.proofs.Steps.{iota_is, round_is, rounds-none, rounds_more}
use Rattle.keccak.proofs.States.{theta-state, rho-state, pi-state, chi-state, iota-state, round-state, rest_words}
use Rattle.inverse.specs.Inverse.{untheta, unrho, unpi, unchi, unround, unrounds, last_unrounds}
use Rattle.inverse.proofs.Theta.{untheta-state, untheta-theta, theta-untheta}
use Rattle.inverse.proofs.RhoPi.{unrho-state, unrho-rho, rho-unrho, unpi-state, unpi-pi, pi-unpi}
use Rattle.inverse.proofs.Chi.{unchi-state, unchi-chi, chi-unchi}

-- ---- iota

pub iota-iota : (rc : ℕ) (a : List ℕ) → State a → iota rc (iota rc a) ≡ a
iota-iota rc a s =
    let h : 0 < length a = omega (arith, s.lanes) in
    let e : get_or (set a 0 (bit_xor (get_or a 0 0) rc)) 0 0 ≡ bit_xor (get_or a 0 0) rc = get_or-set_same a 0 _ 0 h in
    iota_is (iota rc a) rc ∙ ap (λ (b : List ℕ). set b 0 (bit_xor (get_or b 0 0) rc)) (iota_is a rc)
    ∙ ap (λ (w : ℕ). set (set a 0 (bit_xor (get_or a 0 0) rc)) 0 (bit_xor w rc)) e ∙ set-set a 0 _ _ ∙ ap (set a 0) (xor_again (get_or a 0 0) rc) ∙ set-get_or a 0 0

-- ---- the round

module _ (rc : ℕ) (h : rc < 2 ^ 64) (a : List ℕ) (s : State a) where
  pub unround-state : State (unround rc a)
  unfolding unround
  unround-state = untheta-state _ (unrho-state _ (unpi-state _ (unchi-state _ (iota-state a s rc h))))

  pub unround-round : unround rc (round rc a) ≡ a
  unfolding unround
  unround-round =
      let s1 : State (theta a) = theta-state a s in
      let s2 : State (rho (theta a)) = rho-state _ s1 in
      let s3 : State (pi (rho (theta a))) = pi-state _ s2 in
      ap (unround rc) (round_is a rc)
      ∙ ap (λ (b : List ℕ). untheta (unrho (unpi (unchi b)))) (iota-iota rc _ (chi-state _ s3))
      ∙ ap (λ (b : List ℕ). untheta (unrho (unpi b))) (unchi-chi _ s3)
      ∙ ap (λ (b : List ℕ). untheta (unrho b)) (unpi-pi _ s2)
      ∙ ap untheta (unrho-rho _ s1) ∙ untheta-theta a s

  pub round-unround : round rc (unround rc a) ≡ a
  unfolding unround
  round-unround =
      let s1 : State (iota rc a) = iota-state a s rc h in
      let s2 : State (unchi (iota rc a)) = unchi-state _ s1 in
      let s3 : State (unpi (unchi (iota rc a))) = unpi-state _ s2 in
      round_is (unround rc a) rc
      ∙ ap (λ (b : List ℕ). iota rc (chi (pi (rho b)))) (theta-untheta _ (unrho-state _ s3))
      ∙ ap (λ (b : List ℕ). iota rc (chi (pi b))) (rho-unrho _ s3)
      ∙ ap (λ (b : List ℕ). iota rc (chi b)) (pi-unpi _ s2)
      ∙ ap (iota rc) (chi-unchi _ s1) ∙ iota-iota rc a s

-- ---- rounds over any constants

-- each of them is a word
abbrev Constants : List ℕ → Type 0
Constants rcs = (k : ℕ) → k < length rcs → get_or rcs k 0 < 2 ^ 64

first : (rc : ℕ) (rcs : List ℕ) → Constants (rc ∷ rcs) → rc < 2 ^ 64
first rc rcs h = h 0 (zero-lt-suc (length rcs))

rest : (rc : ℕ) (rcs : List ℕ) → Constants (rc ∷ rcs) → Constants rcs
rest rc rcs h k g = h (suc k) (suc-le-suc g)

unrounds-state : (rcs a : List ℕ) → Constants rcs → State a → State (unrounds rcs a)
unfolding unrounds
unrounds-state [] a h s = s
unrounds-state (rc ∷ rcs) a h s = unround-state rc (first rc rcs h) (unrounds rcs a) (unrounds-state rcs a (rest rc rcs h) s)

-- undoing after doing
unrounds-rounds : (rcs a : List ℕ) → Constants rcs → State a → unrounds rcs (rounds rcs a) ≡ a
unfolding unrounds
unrounds-rounds [] a h s = rounds-none a
unrounds-rounds (rc ∷ rcs) a h s =
    ap (unrounds (rc ∷ rcs)) (rounds_more a rc rcs)
    ∙ ap (unround rc) (unrounds-rounds rcs (round rc a) (rest rc rcs h) (round-state rc a (first rc rcs h) s)) ∙ unround-round rc (first rc rcs h) a s

-- doing after undoing
rounds-unrounds : (rcs a : List ℕ) → Constants rcs → State a → rounds rcs (unrounds rcs a) ≡ a
unfolding unrounds
rounds-unrounds [] a h s = rounds-none a
rounds-unrounds (rc ∷ rcs) a h s =
    rounds_more (unrounds (rc ∷ rcs) a) rc rcs
    ∙ ap (rounds rcs) (round-unround rc (first rc rcs h) (unrounds rcs a) (unrounds-state rcs a (rest rc rcs h) s)) ∙ rounds-unrounds rcs a (rest rc rcs h) s

-- ---- the last n of the 24 rounds; of more than 24 both are nothing

abbrev constants : ℕ → List ℕ
constants n = drop (24 - n) round_constants

pub last_unrounds_lem : (n : ℕ) (a : List ℕ) → n ≤ 24 → unrounds (constants n) a ≡ last_unrounds n a
unfolding last_unrounds
last_unrounds_lem n a h = rw (le-leb n 24 h)

pub last_unrounds-none : (n : ℕ) (a : List ℕ) → 24 < n → a ≡ last_unrounds n a
unfolding last_unrounds
last_unrounds-none n a h = rw (lt-leb n 24 h)

module _ (n : ℕ) (a : List ℕ) (s : State a) where
  pub last_unrounds-state : State (last_unrounds n a)
  last_unrounds-state = by (dec_lt 24 n)
    where
      by : Dec (24 < n) → State (last_unrounds n a)
      by (yes h) = subst State (last_unrounds-none n a h) s
      by (no h) = subst State (last_unrounds_lem n a (omega (arith, h))) (unrounds-state (constants n) a (rest_words (24 - n)) s)

  pub last_undone : last_unrounds n (last_rounds n a) ≡ a
  last_undone = by (dec_lt 24 n)
    where
      by : Dec (24 < n) → last_unrounds n (last_rounds n a) ≡ a
      by (yes h) = sym (last_none n a h ∙ last_unrounds-none n (last_rounds n a) h)
      by (no h) =
          let most : n ≤ 24 = omega (arith, h) in
          sym (last_unrounds_lem n (last_rounds n a) most) ∙ ap (unrounds (constants n)) (sym (last_rounds_lem n a most)) ∙ unrounds-rounds (constants n) a (rest_words (24 - n)) s

  pub last_done : last_rounds n (last_unrounds n a) ≡ a
  last_done = by (dec_lt 24 n)
    where
      by : Dec (24 < n) → last_rounds n (last_unrounds n a) ≡ a
      by (yes h) = sym (last_unrounds-none n a h ∙ last_none n (last_unrounds n a) h)
      by (no h) =
          let most : n ≤ 24 = omega (arith, h) in
          sym (last_rounds_lem n (last_unrounds n a) most) ∙ ap (rounds (constants n)) (sym (last_unrounds_lem n a most)) ∙ rounds-unrounds (constants n) a (rest_words (24 - n)) s
