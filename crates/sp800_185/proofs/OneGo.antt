-- In one go: cSHAKE of two empty strings is SHAKE, with its status and its bytes on every input; and a shorter output of cSHAKE and of KMACXOF is the first
-- bytes of a longer one.
-- Assumes nothing.
use mathlib.Core.Path.{◌≡◌, refl, sym, ap, ◌∙◌}
use mathlib.Core.List.{List, [], ◌∷◌, ◌++◌}
use mathlib.Core.Bool.{Bool, true, false, cond, false≢true}
use Prim.Native.Nat.{ℕ, ◌+◌, ◌-◌, ◌≤◌, ◌<◌, zero-le}
use native.Mathlib.Omega.{arith}
use lib.ListN.{length, take}
use lib.Seq.{take-append_seam}
use lib.Dec.{eqb, leb}
use Rattle.keccak.specs.Permutation.{last_rounds}
use Rattle.sponge.specs.Published.{sponge}
use Rattle.sponge.specs.Status.{done, bad_length, output_too_long, first_of}
use Rattle.sponge.specs.Transcript.{lent}
use Rattle.sponge.specs.Model.{Sponge, fresh, absorb_bytes, pad, squeeze_bytes, after_bytes}
use Rattle.sponge.proofs.Published.{squeeze-add, length-squeeze, squeeze-sponge}
use Rattle.sponge.proofs.Valid.{fits-valid}
use Rattle.hasher.specs.Function.{long_output}
use Rattle.hasher.specs.Model as hasher
use Rattle.hasher.specs.Model.{hash_status, hash_at_status}
use Rattle.hasher.proofs.OneGo.{at_lent}
use Rattle.fips202.specs.Published.{keccak, shake}
use Rattle.fips202.specs.Transcript.{shake128, shake256}
use Rattle.sp800_185.specs.Published.{both_empty, cshake_prefix, shake_byte, cshake_string, cshake, kmac_name, kmac_message, kmacxof}
use Rattle.sp800_185.specs.Function.{length_status}
use Rattle.sp800_185.specs.Cshake.{start_status, shake_at, one_go_status, one_go_output}

-- ---- cSHAKE of two empty strings is SHAKE

pub cshake-shake : (rate : ℕ) (x : List ℕ) (l : ℕ) → cshake rate x l [] [] ≡ sponge (last_rounds 24) rate x 0x1F l
unfolding cshake cshake_string cshake_prefix
cshake-shake rate x l = refl

pub cshake128-shake : (x : List ℕ) (l : ℕ) → cshake 168 x l [] [] ≡ shake 16 x l
unfolding shake keccak
cshake128-shake x l = cshake-shake 168 x l

pub cshake256-shake : (x : List ℕ) (l : ℕ) → cshake 136 x l [] [] ≡ shake 32 x l
unfolding shake keccak
cshake256-shake x l = cshake-shake 136 x l

length_first : (l : ℕ) → length_status l ≡ first_of (cond (eqb l 0) bad_length done) (cond (leb l long_output) done output_too_long)
length_first l = by (eqb l 0)
  where
    by : (t : Bool) → cond t 7 (cond (leb l long_output) 0 6) ≡ first_of (cond t 7 0) (cond (leb l long_output) 0 6)
    by true = refl
    by false = refl

module _ (rate : ℕ) (pos : 0 < rate) (most : rate ≤ 200) where
  -- the call in one go has SHAKE's status and writes SHAKE's bytes, on every message and output
  pub empty_status : (m l : ℕ) → one_go_status 0 0 m l ≡ hasher.one_go_status (shake_at rate) m tt l
  unfolding one_go_status start_status hash_at_status hash_status
  empty_status m l = rw (fits-valid 24 rate 0 refl zero-le pos most, length_first l)

  pub empty_output : (x out : List ℕ) → one_go_output rate x [] [] out ≡ hasher.one_go_output (shake_at rate) x tt out
  unfolding one_go_output
  empty_output x out =
      (λ i. lent (empty_status (length x) (length out) i) (cshake-shake rate x (length out) i) out)
      ∙ sym (at_lent rate 24 long_output x done shake_byte out)

  -- by the test of the strings
  pub shake-status : (n s : List ℕ) → both_empty n s ≡ true → (m l : ℕ) → hasher.one_go_status (shake_at rate) m tt l ≡ one_go_status (length n) (length s) m l
  shake-status [] [] e m l = sym (empty_status m l)
  shake-status [] (c ∷ s) e m l = absurd (false≢true e)
  shake-status (b ∷ n) s e m l = absurd (false≢true e)

  pub shake-output : (n s : List ℕ) → both_empty n s ≡ true → (x out : List ℕ) → hasher.one_go_output (shake_at rate) x tt out ≡ one_go_output rate x n s out
  shake-output [] [] e x out = sym (empty_output x out)
  shake-output [] (c ∷ s) e x out = absurd (false≢true e)
  shake-output (b ∷ n) s e x out = absurd (false≢true e)

pub shake128-status : (m l : ℕ) → one_go_status 0 0 m l ≡ hasher.one_go_status shake128 m tt l
shake128-status = empty_status 168 (omega arith) (omega arith)

pub shake128-output : (x out : List ℕ) → one_go_output 168 x [] [] out ≡ hasher.one_go_output shake128 x tt out
shake128-output = empty_output 168 (omega arith) (omega arith)

pub shake256-status : (m l : ℕ) → one_go_status 0 0 m l ≡ hasher.one_go_status shake256 m tt l
shake256-status = empty_status 136 (omega arith) (omega arith)

pub shake256-output : (x out : List ℕ) → one_go_output 136 x [] [] out ≡ hasher.one_go_output shake256 x tt out
shake256-output = empty_output 136 (omega arith) (omega arith)

-- ---- a shorter output is the first bytes of a longer one, where the length is not said

abbrev P : List ℕ → List ℕ
P = last_rounds 24

module _ (rate : ℕ) (pos : 0 < rate) where
  pub sponge-shorter : (x : List ℕ) (d k l : ℕ) → k ≤ l → sponge P rate x d k ≡ take k (sponge P rate x d l)
  sponge-shorter x d k l h =
      let s : Sponge = pad P rate (absorb_bytes P rate fresh x) d in
      let e : l ≡ k + (l - k) = omega arith in
      let rest : List ℕ = squeeze_bytes P rate (l - k) (after_bytes P rate k s) in
      let first : take k (squeeze_bytes P rate k s ++ rest) ≡ squeeze_bytes P rate k s =
      ap (λ (j : ℕ). take j (squeeze_bytes P rate k s ++ rest)) (sym (length-squeeze P rate pos k s)) ∙ take-append_seam (squeeze_bytes P rate k s) rest in
      sym (squeeze-sponge P rate pos x d k) ∙ sym first
      ∙ ap (take k) (sym (squeeze-add P rate pos k (l - k) s) ∙ ap (λ (j : ℕ). squeeze_bytes P rate j s) (sym e) ∙ squeeze-sponge P rate pos x d l)

  pub cshake-shorter : (x n s : List ℕ) (k l : ℕ) → k ≤ l → cshake rate x k n s ≡ take k (cshake rate x l n s)
  unfolding cshake
  cshake-shorter x n s k l h = sponge-shorter _ _ k l h

  pub kmacxof-shorter : (key x s : List ℕ) (k l : ℕ) → k ≤ l → kmacxof rate key x k s ≡ take k (kmacxof rate key x l s)
  unfolding kmacxof
  kmacxof-shorter key x s k l h = cshake-shorter (kmac_message rate key x 0) kmac_name s k l h
