-- Two pieces absorbed in a row, both or neither: what the joined piece gets, on every run, reached or not, of a function that takes every
-- piece by itself.
-- Assumes nothing.
use mathlib.Core.Path.{◌≡◌, refl, sym}
use mathlib.Core.List.{List, [], ◌++◌}
use mathlib.Core.Bool.{Bool, true, false}
use Prim.Native.Nat.{ℕ, ◌+◌, ◌≤◌, ◌<◌}
use native.Mathlib.Omega.{arith}
use lib.ListN.{length, length-append}
use lib.Dec.{eqb, leb}
use borrow.Author.Tests.{eqb-true, leb-true, leb-false, lt-leb}
use Rattle.sponge.specs.Transcript.{Call.absorb, Rules, Reply}
use Rattle.sponge.specs.Runs.{Run, Machine, worked, perform}
use Rattle.sponge.proofs.Streaming.{Laws}
use Rattle.sponge.proofs.Joining.{Stays, absorb-absorb}

module _ {S A : Type 0} (U : Rules A) (M : Machine S A) (L : Laws U M) (stays : Stays U M) (any : (n : ℕ) → U.piece n ≡ 0) (r : Run S) (a b : List ℕ) where
  abbrev first : Reply (Run S)
  first = perform U M r (absorb a)

  abbrev second : Reply (Run S)
  second = perform U M first.left (absorb b)

  longer : U.input_limit < r.absorbed + length a + length b → leb (r.absorbed + length (a ++ b)) U.input_limit ≡ false
  longer h = lt-leb (r.absorbed + length (a ++ b)) U.input_limit (rw (length-append a b) (omega arith))

  pub first_refused : (first.status ≡ 0 → ⊥) → perform U M r (absorb (a ++ b)) ≡ record { status = first.status; bytes = []; left = r }
  unfolding perform
  first_refused n = by (M.reachable r) (eqb r.phase 0) (leb (r.absorbed + length a) U.input_limit) refl refl refl
    where
      by : (t o l : Bool) → M.reachable r ≡ t → eqb r.phase 0 ≡ o → leb (r.absorbed + length a) U.input_limit ≡ l
          → perform U M r (absorb (a ++ b)) ≡ record { status = (perform U M r (absorb a)).status; bytes = []; left = r }
      by false o l h i f = rw h
      by true false l h i f = rw (h, i)
      by true true false h i f = rw (h, i, any (length a), any (length (a ++ b)), f, longer (let k = leb-false (r.absorbed + length a) U.input_limit f in omega (arith, k)))
      by true true true h i f = absurd (n (rw (h, i, any, f)))

  -- what a first piece that is done tells of the run
  record Opened : Type 0 where
    reachable : M.reachable r ≡ true
    absorbing : eqb r.phase 0 ≡ true
    short : leb (r.absorbed + length a) U.input_limit ≡ true

  opened : first.status ≡ 0 → Opened
  unfolding perform
  opened e = by (M.reachable r) (eqb r.phase 0) (leb (r.absorbed + length a) U.input_limit) refl refl refl
    where
      by : (t o l : Bool) → M.reachable r ≡ t → eqb r.phase 0 ≡ o → leb (r.absorbed + length a) U.input_limit ≡ l → Opened
      by false o l h i f = absurd (let z : 5 ≡ 0 = rw h at e in omega arith)
      by true false l h i f = absurd (let z : 3 ≡ 0 = rw (h, i) at e in omega arith)
      by true true false h i f = absurd (let z : 2 ≡ 0 = rw (h, i, any, f) at e in omega arith)
      by true true true h i f = record { reachable = h; absorbing = i; short = f }

  -- the run that it leaves
  first_is : Opened → first ≡ record { status = 0; bytes = []; left = worked U M r (absorb a) }
  unfolding perform
  first_is o = rw (o.reachable, o.absorbing, any, o.short)

  after-reachable : Opened → M.reachable (worked U M r (absorb a)) ≡ true
  after-reachable o = stays r (absorb a) o.reachable (rw (o.absorbing, any, o.short))

  pub second-refused : first.status ≡ 0 → (second.status ≡ 0 → ⊥) → perform U M r (absorb (a ++ b)) ≡ record { status = second.status; bytes = []; left = r }
  unfolding perform
  second-refused e n = let o : Opened = opened e in by o (leb (r.absorbed + length a + length b) U.input_limit) refl
    where
      by : Opened → (w : Bool) → leb (r.absorbed + length a + length b) U.input_limit ≡ w
          → perform U M r (absorb (a ++ b)) ≡ record { status = (perform U M (perform U M r (absorb a)).left (absorb b)).status; bytes = []; left = r }
      by o false g =
          rw (first_is o, after-reachable o, o.reachable, o.absorbing, any (length b), any (length (a ++ b)), g, longer (leb-false (r.absorbed + length a + length b) U.input_limit g))
      by o true g = absurd (n (rw (first_is o, after-reachable o, o.absorbing, any, g)))

  pub both_done : first.status ≡ 0 → second.status ≡ 0 → perform U M r (absorb (a ++ b)) ≡ second
  unfolding perform
  both_done e z = let o : Opened = opened e in by o (leb (r.absorbed + length a + length b) U.input_limit) refl
    where
      by : Opened → (w : Bool) → leb (r.absorbed + length a + length b) U.input_limit ≡ w
          → perform U M r (absorb (a ++ b)) ≡ perform U M (perform U M r (absorb a)).left (absorb b)
      by o false g = absurd (let k : 2 ≡ 0 = rw (first_is o, after-reachable o, o.absorbing, any, g) at z in omega arith)
      by o true g =
          let k : r.absorbed + length a + length b ≤ U.input_limit = leb-true _ _ g in
          sym (absorb-absorb U M L stays r a b o.reachable (eqb-true _ _ o.absorbing) (rw (length-append a b) (omega (arith, k))) (any (length a)) (any (length b)) (any (length (a ++ b))))
