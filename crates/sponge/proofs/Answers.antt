-- The status of each call on a run, case by case, for every function: what the proofs of code ask.
-- Assumes nothing.
use mathlib.Core.Path.{◌≡◌}
use mathlib.Core.List.{List}
use mathlib.Core.Bool.{true, false}
use Prim.Native.Nat.{ℕ, suc, ◌+◌, ◌≤◌, ◌<◌}
use borrow.Author.Tests.{eq-eqb, ne_eqb, le-leb, lt-leb}
use lib.ListN.{length}
use Rattle.sponge.specs.Transcript.{Call, Call.absorb, Call.customize, Call.finalize, Call.finish, Call.squeeze, Customization.up_to, Rules}
use Rattle.sponge.specs.Runs.{Run, Machine, run_status}

module _ {S A : Type 0} (U : Rules A) (M : Machine S A) (r : Run S) where
  pub status_5 : (c : Call A) → M.reachable r ≡ false → run_status U M r c ≡ 5
  status_5 c e = rw e

  module _ (e : M.reachable r ≡ true) where
    pub absorb_3 : (p : List ℕ) → (r.phase ≡ 0 → ⊥) → run_status U M r (absorb p) ≡ 3
    absorb_3 p f = rw (e, ne_eqb r.phase 0 f)

    pub absorb-refused : (p : List ℕ) (n : ℕ) → r.phase ≡ 0 → U.piece (length p) ≡ suc n → run_status U M r (absorb p) ≡ suc n
    absorb-refused p n f g = rw (e, eq-eqb r.phase 0 f, g)

    pub absorb_2 : (p : List ℕ) → r.phase ≡ 0 → U.piece (length p) ≡ 0 → U.input_limit < r.absorbed + length p → run_status U M r (absorb p) ≡ 2
    absorb_2 p f h g = rw (e, eq-eqb r.phase 0 f, h, lt-leb (r.absorbed + length p) U.input_limit g)

    pub absorb_0 : (p : List ℕ) → r.phase ≡ 0 → U.piece (length p) ≡ 0 → r.absorbed + length p ≤ U.input_limit → run_status U M r (absorb p) ≡ 0
    absorb_0 p f h g = rw (e, eq-eqb r.phase 0 f, h, le-leb (r.absorbed + length p) U.input_limit g)

    pub finalize_3 : (a : A) → (r.phase ≡ 0 → ⊥) → run_status U M r (finalize a) ≡ 3
    finalize_3 a f = rw (e, ne_eqb r.phase 0 f)

    pub finalize-argument : (a : A) → r.phase ≡ 0 → run_status U M r (finalize a) ≡ U.argument a
    finalize-argument a f = rw (e, eq-eqb r.phase 0 f)

    pub squeeze_3 : (k : ℕ) → (r.phase ≡ 1 → ⊥) → run_status U M r (squeeze k) ≡ 3
    squeeze_3 k f = rw (e, ne_eqb r.phase 1 f)

    pub squeeze_6 : (k : ℕ) → r.phase ≡ 1 → M.limit r.state < r.squeezed + k → run_status U M r (squeeze k) ≡ 6
    squeeze_6 k f g = rw (e, eq-eqb r.phase 1 f, lt-leb (r.squeezed + k) (M.limit r.state) g)

    pub squeeze_0 : (k : ℕ) → r.phase ≡ 1 → r.squeezed + k ≤ M.limit r.state → run_status U M r (squeeze k) ≡ 0
    squeeze_0 k f g = rw (e, eq-eqb r.phase 1 f, le-leb (r.squeezed + k) (M.limit r.state) g)

    pub customize_3 : (p : List ℕ) → r.phase ≡ 1 → run_status U M r (customize p) ≡ 3
    customize_3 p f = rw (e, eq-eqb r.phase 1 f)

    pub finish_3 : (r.phase ≡ 2 → ⊥) → run_status U M r finish ≡ 3
    finish_3 f = rw (e, ne_eqb r.phase 2 f)

    -- of a function with a customization phase
    module _ (most : ℕ) (of : List ℕ → A) (named : U.customization ≡ up_to most of) where
      pub customize_4 : (p : List ℕ) → (r.phase ≡ 1 → ⊥) → most < M.customized r.state + length p → run_status U M r (customize p) ≡ 4
      customize_4 p f g = rw (e, ne_eqb r.phase 1 f, named, lt-leb (M.customized r.state + length p) most g)

      pub customize_0 : (p : List ℕ) → (r.phase ≡ 1 → ⊥) → M.customized r.state + length p ≤ most → run_status U M r (customize p) ≡ 0
      customize_0 p f g = rw (e, ne_eqb r.phase 1 f, named, le-leb (M.customized r.state + length p) most g)

      pub finish_0 : r.phase ≡ 2 → run_status U M r finish ≡ 0
      finish_0 f = rw (e, eq-eqb r.phase 2 f, named)
