-- What a function has once its machine meets `Laws` and `Stays` and its test of status 5 says what `Shape` says: the list theorem,
-- what follows from it, refusals, and both directions of status 5, as one record.
-- Assumes nothing.
use mathlib.Core.Path.{◌≡◌, refl, sym, ap, ◌∙◌, subst}
use mathlib.Core.List.{List, [], ◌∷◌, ◌++◌}
use mathlib.Core.Bool.{Bool, true, false, cond}
use Prim.Native.Nat.{ℕ, suc, ◌+◌, ◌≤◌}
use native.Mathlib.Omega.{arith}
use lib.ListN.{length}
use lib.Dec.{T, eqb}
use Rattle.sponge.specs.Status.{unreachable}
use Rattle.sponge.specs.Transcript.{Call, Call.absorb, Call.customize, Call.finalize, Call.finish, Call.squeeze, Customization.up_to, Rules, Reply}
use Rattle.sponge.specs.Runs.{Run, Machine, perform}
use Rattle.sponge.specs.Streaming.{History, history, joined, Streaming, told, ran}
use Rattle.sponge.proofs.Streaming as generic
use Rattle.sponge.proofs.Joining as joining
use Rattle.sponge.proofs.Joining.{customizes}
use Rattle.sponge.proofs.Reachable.{Statuses, Reached, Shape, reachable_reached, reached_reachable, status-five, five-status}

-- ---- what is claimed

module _ {S A : Type 0} (U : Rules A) (M : Machine S A) where
  -- calls in a row on any run that 5 does not refuse, reached or not
  pub record Joins : Type 0 where
    pub absorb-absorb : (r : Run S) (a b : List ℕ) → M.reachable r ≡ true → r.phase ≡ 0 → r.absorbed + length (a ++ b) ≤ U.input_limit
        → U.piece (length a) ≡ 0 → U.piece (length b) ≡ 0 → U.piece (length (a ++ b)) ≡ 0
        → perform U M (perform U M r (absorb a)).left (absorb b) ≡ perform U M r (absorb (a ++ b))
    pub absorb-nothing : (r : Run S) → M.reachable r ≡ true → r.phase ≡ 0 → perform U M r (absorb []) ≡ record { status = 0; bytes = []; left = r }
    pub customize-customize : (most : ℕ) (of : List ℕ → A) → U.customization ≡ up_to most of → (r : Run S) (a b : List ℕ) → M.reachable r ≡ true → (r.phase ≡ 1 → ⊥)
        → M.customized r.state + length (a ++ b) ≤ most → perform U M (perform U M r (customize a)).left (customize b) ≡ perform U M r (customize (a ++ b))
    pub customize-nothing : (most : ℕ) (of : List ℕ → A) → U.customization ≡ up_to most of → (r : Run S) → M.reachable r ≡ true → r.phase ≡ 2
        → perform U M r (customize []) ≡ record { status = 0; bytes = []; left = r }
    pub squeeze-squeeze : (r : Run S) (m n : ℕ) → M.reachable r ≡ true → r.phase ≡ 1 → r.squeezed + (m + n) ≤ M.limit r.state
        → record {
          status = (perform U M (perform U M r (squeeze m)).left (squeeze n)).status;
          bytes = (perform U M r (squeeze m)).bytes ++ (perform U M (perform U M r (squeeze m)).left (squeeze n)).bytes;
          left = (perform U M (perform U M r (squeeze m)).left (squeeze n)).left;
        } ≡ perform U M r (squeeze (m + n))
    pub squeeze-nothing : (r : Run S) → M.reachable r ≡ true → r.phase ≡ 1 → perform U M r (squeeze 0) ≡ record { status = 0; bytes = []; left = r }

  -- the two closes: C as one piece and the close of its phase, and the finalize with C, have one status and leave one run; and so for C in
  -- pieces, however many
  pub record Closes : Type 0 where
    pub finish-finalize : (most : ℕ) (of : List ℕ → A) → U.customization ≡ up_to most of → (r : Run S) (c : List ℕ) → M.reachable r ≡ true → r.phase ≡ 0 → length c ≤ most
        → perform U M (perform U M r (customize c)).left finish ≡ perform U M r (finalize (of c))
    pub pieces-finalize : (most : ℕ) (of : List ℕ → A) → U.customization ≡ up_to most of → (ps : List (List ℕ)) (r : Run S) (p : List ℕ) → M.reachable r ≡ true → r.phase ≡ 0
        → length (p ++ joined ps) ≤ most → (history (perform U M) r (customize p ∷ customizes ps)).left ≡ (perform U M r (finalize (of (p ++ joined ps)))).left

  -- a refused call hands back the run that it got and gives no byte; a done absorb grew the total by the piece's length, a done customization piece
  -- that of the customization bytes
  pub record Refusals : Type 0 where
    pub refused : (r : Run S) (c : Call A) (n : ℕ) → (perform U M r c).status ≡ suc n → ((perform U M r c).left ≡ r) × ((perform U M r c).bytes ≡ [])
    pub absorb_grows : (r : Run S) (p : List ℕ) → (perform U M r (absorb p)).status ≡ 0 → (perform U M r (absorb p)).left.absorbed ≡ r.absorbed + length p
    pub customize_grows : (most : ℕ) (of : List ℕ → A) → U.customization ≡ up_to most of → (r : Run S) (p : List ℕ) → (perform U M r (customize p)).status ≡ 0
        → M.customized (perform U M r (customize p)).left.state ≡ M.customized r.state + length p

module _ {S A : Type 0} (U : Rules A) (M : Machine S A) (positions : S → List ℕ) (can : Call A → Type 0) where
  -- status 5 exactly when no list of calls from a fresh run reaches this phase, these totals, this read limit and these positions; where it is
  -- another, here is one
  pub record Five : Type 0 where
    pub five_unreached : (r : Run S) (c : Call A) → (perform U M r c).status ≡ unreachable → Reached U M positions can r → ⊥
    pub unreached_five : (r : Run S) (c : Call A) → (Reached U M positions can r → ⊥) → (perform U M r c).status ≡ unreachable
    pub other_reached : (r : Run S) (c : Call A) → ((perform U M r c).status ≡ unreachable → ⊥) → Reached U M positions can r

  pub record Corollaries : Type 0 where
    pub streaming : (cs : List (Call A)) → Streaming U M cs
    pub equal_transcripts : (cs ds : List (Call A)) → (told U M cs).left ≡ (told U M ds).left → (ran U M cs).left ≡ (ran U M ds).left
    pub joins : Joins U M
    pub closes : Closes U M
    pub refusals : Refusals U M
    pub five : Five

-- ---- the proof, once for every function

module _ {S A : Type 0} (U : Rules A) (M : Machine S A) (L : generic.Laws U M) (stays : joining.Stays U M) (positions : S → List ℕ) (due : ℕ → ℕ → ℕ → ℕ → ℕ → List ℕ)
    (Limited : ℕ → Type 0) (shape : (r : Run S) → M.reachable r ≡ true → Shape U M positions due Limited r)
    (shaped : (r : Run S) → Shape U M positions due Limited r → M.reachable r ≡ true) (can : Call A → Type 0) (O : Statuses U M Limited can) where
  squeeze-nothing : (r : Run S) → M.reachable r ≡ true → r.phase ≡ 1 → perform U M r (squeeze 0) ≡ record { status = 0; bytes = []; left = r }
  squeeze-nothing r h o =
      let fits : r.squeezed ≤ M.limit r.state = subst (λ (p : ℕ). r.squeezed ≤ cond (eqb p 1) (M.limit r.state) 0) o (shape r h).squeezed-fits in
      joining.squeeze-nothing U M L stays r h o fits

  customize-nothing : (most : ℕ) (of : List ℕ → A) → U.customization ≡ up_to most of → (r : Run S) → M.reachable r ≡ true → r.phase ≡ 2
      → perform U M r (customize []) ≡ record { status = 0; bytes = []; left = r }
  customize-nothing most of named r h o = joining.customize-nothing U M L stays most of named r h o (rw (o, named) at (shape r h).customized-fits)

  -- no customization byte was absorbed before the message's end
  not-customized : (r : Run S) → M.reachable r ≡ true → r.phase ≡ 0 → M.customized r.state ≡ 0
  not-customized r h o = let z : M.customized r.state ≤ 0 = rw o at (shape r h).customized-fits in omega (arith, z)

  closes : Closes U M
  closes = record {
    finish-finalize = λ most of named r c h o l. joining.finish-finalize U M L stays most of named r c h o (not-customized r h o) l;
    pieces-finalize = λ most of named ps r p h o l. joining.pieces-finalize U M L stays most of named ps r p h o (not-customized r h o) l;
  }

  joins : Joins U M
  joins = record {
    absorb-absorb = joining.absorb-absorb U M L stays;
    absorb-nothing = λ r h o. joining.absorb-nothing U M L stays r h o (shape r h).absorbed-fits O.nothing-taken;
    customize-customize = joining.customize-customize U M L stays;
    customize-nothing = customize-nothing;
    squeeze-squeeze = joining.squeeze-squeeze U M L stays;
    squeeze-nothing = squeeze-nothing;
  }

  five_unreached : (r : Run S) (c : Call A) → (perform U M r c).status ≡ unreachable → Reached U M positions can r → ⊥
  five_unreached r c e g = subst T (sym (reached_reachable U M L positions due Limited shape shaped can r g) ∙ status-five U M O.piece_other O.argument_other r c e) tt

  unreached_five : (r : Run S) (c : Call A) → (Reached U M positions can r → ⊥) → (perform U M r c).status ≡ unreachable
  unreached_five r c g = by (M.reachable r) refl
    where
      by : (t : Bool) → M.reachable r ≡ t → (perform U M r c).status ≡ unreachable
      by true e = absurd (g (reachable_reached U M L positions due Limited shape shaped can O r e))
      by false e = five-status U M O.piece_other O.argument_other r c e

  other_reached : (r : Run S) (c : Call A) → ((perform U M r c).status ≡ unreachable → ⊥) → Reached U M positions can r
  other_reached r c g = by (M.reachable r) refl
    where
      by : (t : Bool) → M.reachable r ≡ t → Reached U M positions can r
      by true e = reachable_reached U M L positions due Limited shape shaped can O r e
      by false e = absurd (g (five-status U M O.piece_other O.argument_other r c e))

  pub corollaries : Corollaries U M positions can
  corollaries = record {
    streaming = generic.streaming U M L;
    equal_transcripts = joining.equal_transcripts U M L;
    joins = joins;
    closes = closes;
    refusals = record { refused = joining.refused U M; absorb_grows = joining.absorb_grows U M; customize_grows = joining.customize_grows U M L };
    five = record { five_unreached = five_unreached; unreached_five = unreached_five; other_reached = other_reached };
  }

-- ---- a list of calls on runs held in another form: g does to `held x` what f does to x

module _ {C X R : Type 0} (f : X → C → Reply X) (g : R → C → Reply R) (held : X → R)
    (same : (x : X) (c : C) → g (held x) c ≡ record { status = (f x c).status; bytes = (f x c).bytes; left = held (f x c).left }) where
  pub history-held : (cs : List C) (x : X)
      → history g (held x) cs ≡ record { statuses = (history f x cs).statuses; bytes = (history f x cs).bytes; left = held (history f x cs).left }
  history-held [] x = refl
  history-held (c ∷ cs) x =
      ap (λ (y : Reply R). record { statuses = y.status ∷ (history g y.left cs).statuses; bytes = y.bytes ∷ (history g y.left cs).bytes; left = (history g y.left cs).left }) (same x c)
      ∙ ap (λ (h : History R). record { statuses = (f x c).status ∷ h.statuses; bytes = (f x c).bytes ∷ h.bytes; left = h.left }) (history-held cs (f x c).left)
