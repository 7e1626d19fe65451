-- The joining laws as demand 3 words them: of calls that are answered done, on any run.
-- Assumes nothing.
use mathlib.Core.Path.{◌≡◌, refl, sym, ap, ◌∙◌}
use mathlib.Core.List.{List, [], ◌++◌}
use mathlib.Core.Bool.{Bool, true, false, cond}
use Prim.Native.Nat.{ℕ, suc, ◌+◌, ◌≤◌}
use native.Mathlib.Omega.{arith}
use lib.ListN.{length, length-append}
use lib.Dec.{eqb}
use borrow.Author.Tests.{eq-eqb, eqb-true, le-leb, leb-true}
use Rattle.sponge.specs.Transcript.{Call, Call.absorb, Call.squeeze, Rules, Reply}
use Rattle.sponge.specs.Runs.{Run, Machine, worked, perform}
use Rattle.sponge.proofs.FirstStatus.{first_zero}
use Rattle.sponge.proofs.Streaming.{cond-zero, Laws}
use Rattle.sponge.proofs.Joining as joining
use Rattle.sponge.proofs.Joining.{perform-status, perform_done, Stays}

-- a test that is passed, and what then follows
passed : (t : Bool) (m n : ℕ) → cond t m (suc n) ≡ 0 → (t ≡ true) × (m ≡ 0)
passed true m n e = (refl, e)
passed false m n e = absurd (omega arith)

module _ {S A : Type 0} (U : Rules A) (M : Machine S A) where
  -- ---- what is so where a call is answered done

  pub record AbsorbDone (r : Run S) (p : List ℕ) : Type 0 where
    pub reached : M.reachable r ≡ true
    pub absorbing : r.phase ≡ 0
    pub taken : U.piece (length p) ≡ 0
    pub fits : r.absorbed + length p ≤ U.input_limit

  pub record SqueezeDone (r : Run S) (k : ℕ) : Type 0 where
    pub reached : M.reachable r ≡ true
    pub squeezing : r.phase ≡ 1
    pub fits : r.squeezed + k ≤ M.limit r.state

  pub absorb_done : (r : Run S) (p : List ℕ) → (perform U M r (absorb p)).status ≡ 0 → AbsorbDone r p
  absorb_done r p e =
      let a = passed (M.reachable r) _ _ (sym (perform-status U M r (absorb p)) ∙ e) in
      let b = passed (eqb r.phase 0) _ _ a.1 in
      let c = first_zero (U.piece (length p)) _ b.1 in
      record { reached = a.0; absorbing = eqb-true _ _ b.0; taken = c.0; fits = leb-true _ _ (cond-zero _ _ c.1) }

  pub squeeze_done : (r : Run S) (k : ℕ) → (perform U M r (squeeze k)).status ≡ 0 → SqueezeDone r k
  squeeze_done r k e =
      let a = passed (M.reachable r) _ _ (sym (perform-status U M r (squeeze k)) ∙ e) in
      let b = passed (eqb r.phase 1) _ _ a.1 in
      record { reached = a.0; squeezing = eqb-true _ _ b.0; fits = leb-true _ _ (cond-zero _ _ b.1) }

  -- a part of a squeeze that is done
  pub part_done : (r : Run S) (m n : ℕ) → (perform U M r (squeeze (m + n))).status ≡ 0 → (perform U M r (squeeze m)).status ≡ 0
  part_done r m n e =
      let x : SqueezeDone r (m + n) = squeeze_done r (m + n) e in
      let l : r.squeezed + (m + n) ≤ M.limit r.state = x.fits in
      perform-status U M r (squeeze m) ∙ rw (x.reached, eq-eqb r.phase 1 x.squeezing, le-leb (r.squeezed + m) (M.limit r.state) (omega arith))

  -- the run that a done call leaves
  pub left_done : (r : Run S) (c : Call A) → (perform U M r c).status ≡ 0 → (perform U M r c).left ≡ worked U M r c
  left_done r c e = ap (λ (y : Reply (Run S)). y.left) (perform_done U M r c (sym (perform-status U M r c) ∙ e))

-- ---- the laws

module _ {S A : Type 0} (U : Rules A) (M : Machine S A) (L : Laws U M) (stays : Stays U M) where
  -- two absorbs that are done are the absorb of the joined piece, where pieces of its length are taken
  pub absorb-absorb : (r : Run S) (a b : List ℕ) → (perform U M r (absorb a)).status ≡ 0 → (perform U M (perform U M r (absorb a)).left (absorb b)).status ≡ 0 → U.piece (length (a ++ b)) ≡ 0
      → perform U M (perform U M r (absorb a)).left (absorb b) ≡ perform U M r (absorb (a ++ b))
  absorb-absorb r a b e f w =
      let x : AbsorbDone U M r a = absorb_done U M r a e in
      let y : AbsorbDone U M (perform U M r (absorb a)).left b = absorb_done U M (perform U M r (absorb a)).left b f in
      let z : r.absorbed + length a + length b ≤ U.input_limit = rw (left_done U M r (absorb a) e) at y.fits in
      joining.absorb-absorb U M L stays r a b x.reached x.absorbing (rw length-append (omega arith)) x.taken y.taken w

  -- an absorb that is done is that of its two parts, where pieces of their lengths are taken
  pub absorb_parts : (r : Run S) (a b : List ℕ) → (perform U M r (absorb (a ++ b))).status ≡ 0 → U.piece (length a) ≡ 0 → U.piece (length b) ≡ 0
      → perform U M (perform U M r (absorb a)).left (absorb b) ≡ perform U M r (absorb (a ++ b))
  absorb_parts r a b e f g =
      let x : AbsorbDone U M r (a ++ b) = absorb_done U M r (a ++ b) e in
      joining.absorb-absorb U M L stays r a b x.reached x.absorbing x.fits f g x.taken

  pub absorb-nothing : (r : Run S) → (perform U M r (absorb [])).status ≡ 0 → (perform U M r (absorb [])).left ≡ r
  absorb-nothing r e =
      let x : AbsorbDone U M r [] = absorb_done U M r [] e in
      let l : r.absorbed ≤ U.input_limit = let k : r.absorbed + 0 ≤ U.input_limit = x.fits in omega arith in
      ap (λ (y : Reply (Run S)). y.left) (joining.absorb-nothing U M L stays r x.reached x.absorbing l x.taken)

  -- two squeezes that are done are the one of both lengths
  pub squeeze-squeeze : (r : Run S) (m n : ℕ) → (perform U M r (squeeze m)).status ≡ 0 → (perform U M (perform U M r (squeeze m)).left (squeeze n)).status ≡ 0
      → record {
        status = (perform U M (perform U M r (squeeze m)).left (squeeze n)).status;
        bytes = (perform U M r (squeeze m)).bytes ++ (perform U M (perform U M r (squeeze m)).left (squeeze n)).bytes;
        left = (perform U M (perform U M r (squeeze m)).left (squeeze n)).left;
      } ≡ perform U M r (squeeze (m + n))
  squeeze-squeeze r m n e f =
      let x : SqueezeDone U M r m = squeeze_done U M r m e in
      let y : SqueezeDone U M (perform U M r (squeeze m)).left n = squeeze_done U M (perform U M r (squeeze m)).left n f in
      let z : r.squeezed + m + n ≤ M.limit r.state = rw (left_done U M r (squeeze m) e, L.limit-after m r.state) at y.fits in
      joining.squeeze-squeeze U M L stays r m n x.reached x.squeezing (omega arith)

  -- and a squeeze that is done is two
  pub squeeze_parts : (r : Run S) (m n : ℕ) → (perform U M r (squeeze (m + n))).status ≡ 0
      → record {
        status = (perform U M (perform U M r (squeeze m)).left (squeeze n)).status;
        bytes = (perform U M r (squeeze m)).bytes ++ (perform U M (perform U M r (squeeze m)).left (squeeze n)).bytes;
        left = (perform U M (perform U M r (squeeze m)).left (squeeze n)).left;
      } ≡ perform U M r (squeeze (m + n))
  squeeze_parts r m n e =
      let x : SqueezeDone U M r (m + n) = squeeze_done U M r (m + n) e in
      joining.squeeze-squeeze U M L stays r m n x.reached x.squeezing x.fits

  pub squeeze-nothing : (r : Run S) → (perform U M r (squeeze 0)).status ≡ 0 → (perform U M r (squeeze 0)).left ≡ r
  squeeze-nothing r e =
      let x : SqueezeDone U M r 0 = squeeze_done U M r 0 e in
      let l : r.squeezed ≤ M.limit r.state = let k : r.squeezed + 0 ≤ M.limit r.state = x.fits in omega arith in
      ap (λ (y : Reply (Run S)). y.left) (joining.squeeze-nothing U M L stays r x.reached x.squeezing l)
