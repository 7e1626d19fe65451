-- The output length that a run keeps, and the read limit, tell each other; and what a function owes for it.
-- Assumes nothing.
use mathlib.Core.Path.{◌≡◌, refl, sym}
use mathlib.Core.Bool.{Bool, true, false, cond, ◌&&◌, and-eq-true_iff}
use Prim.Native.Nat.{ℕ, ◌≤◌, ◌<◌}
use native.Mathlib.Omega.{arith}
use lib.Dec.{eqb, leb}
use borrow.Author.Tests.{eq-eqb, ne_eqb, eqb-true, eqb-false, le-leb, leb-true}
use Rattle.sponge.specs.Status.{done}
use Rattle.sponge.proofs.Streaming.{cond-zero}
use Rattle.hasher.specs.Function.{long_output}
use Rattle.sp800_185.specs.Function.{Function, length_status, argument, keeps, limit}
use Rattle.sp800_185.specs.Model.{says, fixes, given}
use Rattle.sp800_185.specs.declared.numbers.Closing.{Closing}
use Rattle.sp800_185.specs.declared.numbers.Closing.TheVariants.{Nothing, Zero, Length}
use Rattle.sp800_185.specs.declared.numbers.Numbers.{Numbers}

-- by whether the close fixes the length
kept_by : (f : Bool) (l : ℕ) → cond f (leb 1 l && leb l long_output) (eqb l 0) ≡ true → cond f (cond f l long_output) 0 ≡ l
kept_by true l e = refl
kept_by false l e = sym (eqb-true l 0 e)

pub within : (l : ℕ) → leb 1 l && leb l long_output ≡ true → (1 ≤ l) × (l ≤ long_output)
within l e = let b = (and-eq-true_iff (leb 1 l) (leb l long_output)).0 e in (leb-true 1 l b.0, leb-true l long_output b.1)

within_is : (l : ℕ) → 1 ≤ l → l ≤ long_output → leb 1 l && leb l long_output ≡ true
within_is l h g = rw (le-leb 1 l h, le-leb l long_output g)

pub length_taken : (l : ℕ) → length_status l ≡ 0 → leb 1 l && leb l long_output ≡ true
length_taken l = by (eqb l 0) refl
  where
    by : (t : Bool) → eqb l 0 ≡ t → ◌≡◌ {A = ℕ} (cond t 7 (cond (leb l long_output) 0 6)) 0 → leb 1 l && leb l long_output ≡ true
    by true e h = absurd (omega arith)
    by false e h = let some = eqb-false l 0 e in within_is l (omega (arith, some)) (leb-true l long_output (cond-zero _ _ h))

taken_by_lem : (f : Bool) (l : ℕ) → cond f (length_status l) done ≡ 0 → cond f l 0 ≡ l → cond f (leb 1 l && leb l long_output) (eqb l 0) ≡ true
taken_by_lem true l e z = length_taken l e
taken_by_lem false l e z = eq-eqb l 0 (sym z)

status_by : (f : Bool) (l : ℕ) → cond f (leb 1 l && leb l long_output) (eqb l 0) ≡ true → cond f (length_status l) done ≡ 0
status_by true l e = let h = within l e in rw (ne_eqb l 0 (λ z. omega (arith, h.0, z)), le-leb l long_output h.1)
status_by false l e = refl

few_by : (f : Bool) (l : ℕ) → cond f (leb 1 l && leb l long_output) (eqb l 0) ≡ true → (l ≤ long_output) × (cond f l long_output ≤ long_output)
few_by true l e = ((within l e).1, (within l e).1)
few_by false l e = (omega (arith, eqb-true l 0 e), omega arith)

module _ {A : Type 0} (F : Function A) where
  -- the length that a closed run with this read limit keeps
  abbrev pub kept_at : ℕ → ℕ
  kept_at z = cond F.fixes z 0

  pub kept_limit : (l : ℕ) → keeps F l ≡ true → kept_at (limit F l) ≡ l
  kept_limit l = kept_by F.fixes l

  pub kept_few : (l : ℕ) → keeps F l ≡ true → (l ≤ long_output) × (limit F l ≤ long_output)
  kept_few l = few_by F.fixes l

  -- what a function owes: a rate; for every length that a closed run keeps a close that says it; and that nothing but 0 is said where none is fixed
  pub record Meets : Type 0 where
    pub positive : 0 < F.rate
    pub fits : F.rate ≤ 200
    pub some : ℕ → A
    pub some_said : (l : ℕ) → keeps F l ≡ true → F.said (some l) ≡ l
    pub said_fixed : (a : A) → kept_at (F.said a) ≡ F.said a

  module _ (E : Meets) where
    pub said_kept : (a : A) → argument F a ≡ 0 → keeps F (F.said a) ≡ true
    said_kept a e = taken_by_lem F.fixes (F.said a) e (E.said_fixed a)

    pub some_taken : (l : ℕ) → keeps F l ≡ true → argument F (E.some l) ≡ 0
    some_taken l e = rw (E.some_said l e) (status_by F.fixes l e)

-- ---- the functions that the code is given

pub says_some : (k : Closing) → (k ≡ Nothing → ⊥) → says k ≡ true
says_some Nothing h = absurd (h refl)
says_some Zero h = refl
says_some Length h = refl

twice : (f : Bool) (l : ℕ) → cond f (cond f l 0) 0 ≡ cond f l 0
twice true l = refl
twice false l = refl

said_by : (f : Bool) (l : ℕ) → cond f (leb 1 l && leb l long_output) (eqb l 0) ≡ true → cond f l 0 ≡ l
said_by true l e = refl
said_by false l e = sym (eqb-true l 0 e)

pub given_meets : (f : Numbers) → Meets (given f)
given_meets f = record { positive = f.usable.0; fits = f.usable.1; some = λ l. l; some_said = said_by (fixes f.closing); said_fixed = twice (fixes f.closing) }

-- a length that the close takes is short
pub given_few : (f : Numbers) (l : ℕ) → argument (given f) l ≡ 0 → cond (fixes f.closing) l 0 ≤ long_output
given_few f l e = (kept_few (given f) (cond (fixes f.closing) l 0) (said_kept (given f) (given_meets f) l e)).0
