-- Status 5 exactly when no list of calls from a fresh run reaches this phase, these totals, this read limit and these positions, among which a
-- machine may have its permutations: both directions,
-- for a machine whose test looks at nothing else.
-- Assumes nothing.
use mathlib.Core.Path.{◌≡◌, refl, sym, ap, ◌∙◌, subst}
use mathlib.Core.List.{List, [], ◌∷◌, ◌++◌, append-nil, append_assoc}
use mathlib.Core.Bool.{Bool, true, false, cond}
use Prim.Native.Nat.{ℕ, zero, suc, ◌+◌, ◌≤◌}
use native.Mathlib.Nat.{zero-add}
use native.Mathlib.Omega.{arith}
use lib.ListN.{length, replicate, length-append, length-replicate}
use lib.Dec.{eqb, leb}
use borrow.Author.Tests.{le-leb}
use Rattle.sponge.specs.Status.{unreachable, first_of}
use Rattle.sponge.specs.Transcript.{Call, Call.absorb, Call.customize, Call.finalize, Call.finish, Call.squeeze, Phase, Phase.absorbing, Phase.customizing, Phase.squeezing, phase_number, Transcript, Customization, Customization.none, Customization.up_to, customize_status, finish_status, Rules, Reply, status_of, output_of, transcribe}
use Rattle.sponge.specs.Runs.{Run, Machine, perform, state_of, run_of}
use Rattle.sponge.specs.Streaming.{history, joined, told, ran}
use Rattle.sponge.specs.Callable.{All}
use Rattle.sponge.proofs.Joining.{perform-status, transcribe_done}
use Rattle.sponge.proofs.Streaming.{customization_most, Customized, Fits, Laws, customized-none, customized_so, closed_limit, streaming, told-fits}

-- ---- every transcript within the limits, finalized with what is taken, is told by a list of calls, wherever its bytes are cut

module _ {S A : Type 0} (U : Rules A) (M : Machine S A) where
  abbrev pub closing : Phase A → ℕ → List (Call A)
  closing absorbing n = []
  closing (customizing c) n = customize c ∷ []
  closing (squeezing a) n = finalize a ∷ squeeze n ∷ []

  -- the pieces absorbed in order
  abbrev pub calls_to : List (List ℕ) → Phase A → ℕ → List (Call A)
  calls_to [] h n = closing h n
  calls_to (p ∷ ps) h n = absorb p ∷ calls_to ps h n

  abbrev pub AllTaken : List (List ℕ) → Type 0
  AllTaken [] = Unit {0}
  AllTaken (p ∷ ps) = (U.piece (length p) ≡ 0) × AllTaken ps

  customize_status_lem : (v : Customization A) (c : List ℕ) → Customized v c → customize_status v (0 + length c) ≡ 0
  customize_status_lem none c t = absurd t
  customize_status_lem (up_to most of) c t = rw (zero-add, le-leb (length c) most t)

  -- from the transcript that has absorbed e
  reach_from : (e : List ℕ) (ps : List (List ℕ)) (h : Phase A) (n : ℕ) → Fits U (record { absorbed = e ++ joined ps; phase = h; squeezed = n }) → AllTaken ps
      → (history (transcribe U) (record { absorbed = e; phase = absorbing; squeezed = 0 }) (calls_to ps h n)).left ≡ record { absorbed = e ++ joined ps; phase = h; squeezed = n }
  unfolding transcribe
  reach_from e [] absorbing zero l all = rw (append-nil e)
  reach_from e [] absorbing (suc n) l all = absurd (let k = l.output-fits in omega arith)
  reach_from e [] (customizing c) zero l all = rw (customize_status_lem U.customization c l.phase-taken, append-nil e)
  reach_from e [] (customizing c) (suc n) l all = absurd (let k = l.output-fits in omega arith)
  reach_from e [] (squeezing a) n l all = rw l.phase-taken (rw (zero-add, le-leb n (U.output_limit a) l.output-fits, append-nil e))
  reach_from e (p ∷ ps) h n l all =
      let k : length e + (length p + length (joined ps)) ≤ U.input_limit = rw (length-append, length-append) at l.input_fits in
      let s : status_of U 0 (length e) 0 0 0 (absorb p) ≡ 0 = rw (all.0, le-leb (length e + length p) U.input_limit (omega arith)) in
      ap (λ (y : Reply (Transcript A)). (history (transcribe U) y.left (calls_to ps h n)).left) (transcribe_done U (record { absorbed = e; phase = absorbing; squeezed = 0 }) (absorb p) s)
      ∙ reach_from (e ++ p) ps h n (record { input_fits = rw (append_assoc e p (joined ps)) l.input_fits; output-fits = l.output-fits; phase-taken = l.phase-taken }) all.1
      ∙ ap (λ (s : List ℕ). record { absorbed = s; phase = h; squeezed = n }) (append_assoc e p (joined ps))

  pub reach : (ps : List (List ℕ)) (h : Phase A) (n : ℕ) → Fits U (record { absorbed = joined ps; phase = h; squeezed = n }) → AllTaken ps
      → (told U M (calls_to ps h n)).left ≡ record { absorbed = joined ps; phase = h; squeezed = n }
  reach ps h n l all = reach_from [] ps h n l all

  -- wherever a message is cut, what is squeezed is the published output of the joined pieces
  pub cut_anywhere : Laws U M → (ps : List (List ℕ)) (a : A) (n : ℕ) → AllTaken ps → U.argument a ≡ 0 → length (joined ps) ≤ U.input_limit → n ≤ U.output_limit a
      → joined (ran U M (calls_to ps (squeezing a) n)).bytes ≡ U.output (joined ps) a n
  cut_anywhere L ps a n all t f g =
      (streaming U M L (calls_to ps (squeezing a) n)).output
      ∙ ap (λ (b : Transcript A). output_of U b b.squeezed) (reach ps (squeezing a) n (record { input_fits = f; output-fits = g; phase-taken = t }) all)

-- byte by byte
abbrev singles : List ℕ → List (List ℕ)
singles [] = []
singles (b ∷ f) = (b ∷ []) ∷ singles f

joined_singles : (f : List ℕ) → joined (singles f) ≡ f
joined_singles [] = refl
joined_singles (b ∷ f) = ap (λ (l : List ℕ). b ∷ l) (joined_singles f)

all_singles : {S A : Type 0} (U : Rules A) (M : Machine S A) → U.piece 1 ≡ 0 → (f : List ℕ) → AllTaken U M (singles f)
all_singles U M e [] = tt
all_singles U M e (b ∷ f) = (e, all_singles U M e f)

-- n bytes 00, one by one, can be absorbed before what can follow them
singles_can : {S A : Type 0} (U : Rules A) (M : Machine S A) (can : Call A → Type 0) → can (absorb (0 ∷ [])) → (h : Phase A) (k : ℕ) → All can (closing U M h k)
    → (n : ℕ) → All can (calls_to U M (singles (replicate n 0)) h k)
singles_can U M can b h k e zero = e
singles_can U M can b h k e (suc n) = (b, singles_can U M can b h k e n)

-- what the statuses of pieces and arguments owe: nothing, and a byte alone, are taken, for each number of customization bytes and each read limit
-- that a closed state may have an argument that has as many and leaves it is, and none is answered 5; and that the calls of one list to each
-- phase, totals and read limit can be made
pub record Statuses {S A : Type 0} (U : Rules A) (M : Machine S A) (Limited : ℕ → Type 0) (can : Call A → Type 0) : Type 0 where
  pub nothing-taken : U.piece 0 ≡ 0
  pub byte-taken : U.piece 1 ≡ 0
  pub piece_other : (n : ℕ) → U.piece n ≡ unreachable → ⊥
  pub some : ℕ → ℕ → A
  pub some_taken : (m l : ℕ) → m ≤ customization_most U.customization → Limited l → U.argument (some m l) ≡ 0
  pub some_counted : (n : ℕ) (s : S) (m l : ℕ) → m ≤ customization_most U.customization → Limited l → M.customized (M.finalize n s (some m l)) ≡ m
  pub some_limit : (m l : ℕ) → m ≤ customization_most U.customization → Limited l → U.output_limit (some m l) ≡ l
  pub argument_other : (a : A) → U.argument a ≡ unreachable → ⊥
  pub can_absorb : can (absorb (0 ∷ []))
  pub can_customize : (m : ℕ) → Customized U.customization (replicate m 0) → can (customize (replicate m 0))
  pub can_finalize : (m l : ℕ) → m ≤ customization_most U.customization → Limited l → can (finalize (some m l))
  pub can_squeeze : (n l : ℕ) → Limited l → n ≤ l → can (squeeze n)

-- a list of calls from a fresh run, each of which can be made, that leaves r's phase, totals, read limit and positions
pub record Reached {S A : Type 0} (U : Rules A) (M : Machine S A) (positions : S → List ℕ) (can : Call A → Type 0) (r : Run S) : Type 0 where
  pub calls : List (Call A)
  pub calls_can : All can calls
  pub phase_is : (ran U M calls).left.phase ≡ r.phase
  pub absorbed_is : (ran U M calls).left.absorbed ≡ r.absorbed
  pub customized_is : M.customized (ran U M calls).left.state ≡ M.customized r.state
  pub limit_is : M.limit (ran U M calls).left.state ≡ M.limit r.state
  pub squeezed_is : (ran U M calls).left.squeezed ≡ r.squeezed
  pub positions_are : positions (ran U M calls).left.state ≡ positions r.state

-- the largest phase number
abbrev pub last_phase : {A : Type 0} → Customization A → ℕ
last_phase none = 1
last_phase (up_to most of) = 2

-- the read limit of a state in this phase: that of a fresh one before the close, and after it one that a closed state may have
abbrev pub LimitDue : (ℕ → Type 0) → ℕ → ℕ → ℕ → Type 0
LimitDue Limited unset zero l = l ≡ unset
LimitDue Limited unset (suc zero) l = Limited l
LimitDue Limited unset (suc (suc h)) l = l ≡ unset

-- the read limits of a function whose close does not set one
abbrev pub Fixed : ℕ → ℕ → Type 0
Fixed limit l = l ≡ limit

-- what the test of status 5 looks at: the phase, the totals, the read limit, and the positions due for them
pub record Shape {S A : Type 0} (U : Rules A) (M : Machine S A) (positions : S → List ℕ) (due : ℕ → ℕ → ℕ → ℕ → ℕ → List ℕ) (Limited : ℕ → Type 0) (r : Run S) : Type 0 where
  pub phase-fits : r.phase ≤ last_phase U.customization
  pub absorbed-fits : r.absorbed ≤ U.input_limit
  pub customized-fits : M.customized r.state ≤ cond (eqb r.phase 0) 0 (customization_most U.customization)
  pub limit_due : LimitDue Limited (M.limit M.fresh) r.phase (M.limit r.state)
  pub squeezed-fits : r.squeezed ≤ cond (eqb r.phase 1) (M.limit r.state) 0
  pub positions_due : positions r.state ≡ due r.phase r.absorbed (M.customized r.state) r.squeezed (M.limit r.state)

-- a customization phase that there is takes as many bytes as it may
has_customized : {A : Type 0} (v : Customization A) (c : List ℕ) → 2 ≤ last_phase v → length c ≤ customization_most v → Customized v c
has_customized none c h l = omega arith
has_customized (up_to most of) c h l = l

last_phase_lem : {A : Type 0} (v : Customization A) → last_phase v ≤ 2
last_phase_lem none = omega arith
last_phase_lem (up_to most of) = omega arith

module _ {S A : Type 0} (U : Rules A) (M : Machine S A) (L : Laws U M) (positions : S → List ℕ) (due : ℕ → ℕ → ℕ → ℕ → ℕ → List ℕ) (Limited : ℕ → Type 0)
    (shape : (r : Run S) → M.reachable r ≡ true → Shape U M positions due Limited r) (shaped : (r : Run S) → Shape U M positions due Limited r → M.reachable r ≡ true) where
  -- ---- two runs with one phase, the same totals and one read limit: where both pass the test, their positions are the same; and where the one passes
  -- and their positions are the same, so does the other

  pub same_positions : (q r : Run S) → M.reachable q ≡ true → M.reachable r ≡ true → q.phase ≡ r.phase → q.absorbed ≡ r.absorbed
      → M.customized q.state ≡ M.customized r.state → M.limit q.state ≡ M.limit r.state → q.squeezed ≡ r.squeezed → positions q.state ≡ positions r.state
  same_positions q r f g h n m z k = (shape q f).positions_due ∙ rw (h, n, m, z, k) (sym (shape r g).positions_due)

  pub alike_reachable : (q r : Run S) → M.reachable q ≡ true → q.phase ≡ r.phase → q.absorbed ≡ r.absorbed
      → M.customized q.state ≡ M.customized r.state → M.limit q.state ≡ M.limit r.state → q.squeezed ≡ r.squeezed → positions q.state ≡ positions r.state → M.reachable r ≡ true
  alike_reachable q r f h n m z k p =
      let t : Shape U M positions due Limited q = shape q f in
      shaped r record {
        phase-fits = subst (λ (m : ℕ). m ≤ last_phase U.customization) h t.phase-fits;
        absorbed-fits = subst (λ (m : ℕ). m ≤ U.input_limit) n t.absorbed-fits;
        customized-fits = rw (h, m) at t.customized-fits;
        limit_due = rw (h, z) at t.limit_due;
        squeezed-fits = rw (h, k, z) at t.squeezed-fits;
        positions_due = sym p ∙ t.positions_due ∙ rw (h, n, m, z, k);
      }

  -- ---- a run that the test passes has the phase, the totals and the read limit of a transcript within the limits, whatever its message

  pub record Told (can : Call A → Type 0) (r : Run S) : Type 0 where
    pub phase : Phase A
    pub phase_can : All can (closing U M phase r.squeezed)
    pub phase_is : phase_number phase ≡ r.phase
    pub fits : (f : List ℕ) → length f ≡ r.absorbed → Fits U (record { absorbed = f; phase = phase; squeezed = r.squeezed })
    pub customized_is : (f : List ℕ) → M.customized (state_of U M f phase r.squeezed) ≡ M.customized r.state
    pub limit_is : (f : List ℕ) → M.limit (state_of U M f phase r.squeezed) ≡ M.limit r.state

  module _ (can : Call A → Type 0) (O : Statuses U M Limited can) where
    told_at : (s : S) (h n k : ℕ) → M.reachable (record { state = s; phase = h; absorbed = n; squeezed = k }) ≡ true → Told can (record { state = s; phase = h; absorbed = n; squeezed = k })
    told_at s zero n k e =
        let t = shape _ e in
        let z : M.customized s ≡ 0 = omega (arith, t.customized-fits) in
        record {
          phase = absorbing;
          phase_can = tt;
          phase_is = refl;
          fits = λ f l. record { input_fits = rw l t.absorbed-fits; output-fits = t.squeezed-fits; phase-taken = tt };
          customized_is = λ f. customized-none U M L f ∙ sym z;
          limit_is = λ f. L.limit-absorb 0 M.fresh f ∙ sym t.limit_due;
        }
    told_at s (suc zero) n k e =
        let t = shape _ e in
        let m : ℕ = M.customized s in
        let l : ℕ = M.limit s in
        let same : U.output_limit (O.some m l) ≡ l = O.some_limit m l t.customized-fits t.limit_due in
        record {
          phase = squeezing (O.some m l);
          phase_can = (O.can_finalize m l t.customized-fits t.limit_due, (O.can_squeeze k l t.limit_due t.squeezed-fits, tt));
          phase_is = refl;
          fits = λ f i. record { input_fits = rw i t.absorbed-fits; output-fits = rw same t.squeezed-fits; phase-taken = O.some_taken m l t.customized-fits t.limit_due };
          customized_is = λ f. L.customized-after k _ ∙ O.some_counted _ _ m l t.customized-fits t.limit_due;
          limit_is = λ f. closed_limit U M L f (O.some m l) k ∙ same;
        }
    told_at s (suc (suc zero)) n k e =
        let t = shape _ e in
        let c : List ℕ = replicate (M.customized s) 0 in
        let l : length c ≡ M.customized s = length-replicate (M.customized s) 0 in
        let taken : Customized U.customization c = has_customized U.customization c t.phase-fits (rw l t.customized-fits) in
        record {
          phase = customizing c;
          phase_can = (O.can_customize (M.customized s) taken, tt);
          phase_is = refl;
          fits = λ f i. record { input_fits = rw i t.absorbed-fits; output-fits = t.squeezed-fits; phase-taken = taken };
          customized_is = λ f. customized_so U M L f c U.customization refl taken ∙ l;
          limit_is = λ f. L.limit-customize (length f) _ c ∙ L.limit-absorb 0 M.fresh f ∙ sym t.limit_due;
        }
    told_at s (suc (suc (suc h))) n k e =
        absurd (let l : suc (suc (suc h)) ≤ last_phase U.customization = (shape _ e).phase-fits in let m = last_phase_lem U.customization in omega (arith, l, m))

    pub reachable-told : (r : Run S) → M.reachable r ≡ true → Told can r
    reachable-told r e = told_at r.state r.phase r.absorbed r.squeezed e

    -- ---- and is reached by a list of calls

    pub reachable_reached : (r : Run S) → M.reachable r ≡ true → Reached U M positions can r
    reachable_reached r e =
        let g : Told can r = reachable-told r e in
        let f : List ℕ = replicate r.absorbed 0 in
        let l : length f ≡ r.absorbed = length-replicate r.absorbed 0 in
        let b : Transcript A = record { absorbed = f; phase = g.phase; squeezed = r.squeezed } in
        let cs : List (Call A) = calls_to U M (singles f) g.phase r.squeezed in
        let w : record { absorbed = joined (singles f); phase = g.phase; squeezed = r.squeezed } ≡ b = ap (λ (l : List ℕ). record { absorbed = l; phase = g.phase; squeezed = r.squeezed }) (joined_singles f) in
        let is : (ran U M cs).left ≡ run_of U M b =
        (streaming U M L cs).run ∙ ap (run_of U M) (reach U M (singles f) g.phase r.squeezed (subst (Fits U) (sym w) (g.fits f l)) (all_singles U M O.byte-taken f) ∙ w) in
        let phase : (ran U M cs).left.phase ≡ r.phase = ap (λ (q : Run S). q.phase) is ∙ g.phase_is in
        let absorbed : (ran U M cs).left.absorbed ≡ r.absorbed = ap (λ (q : Run S). q.absorbed) is ∙ l in
        let customized : M.customized (ran U M cs).left.state ≡ M.customized r.state = ap (λ (q : Run S). M.customized q.state) is ∙ g.customized_is f in
        let limit : M.limit (ran U M cs).left.state ≡ M.limit r.state = ap (λ (q : Run S). M.limit q.state) is ∙ g.limit_is f in
        let squeezed : (ran U M cs).left.squeezed ≡ r.squeezed = ap (λ (q : Run S). q.squeezed) is in
        record {
          calls = cs;
          calls_can = singles_can U M can O.can_absorb g.phase r.squeezed g.phase_can r.absorbed;
          phase_is = phase;
          absorbed_is = absorbed;
          customized_is = customized;
          limit_is = limit;
          squeezed_is = squeezed;
          positions_are = same_positions (ran U M cs).left r (rw is (L.run-reachable b (g.fits f l))) e phase absorbed customized limit squeezed;
        }

  -- ---- a run with the phase, the totals, the read limit and the positions that a list of calls reaches passes the test

  pub reached_reachable : (can : Call A → Type 0) (r : Run S) → Reached U M positions can r → M.reachable r ≡ true
  reached_reachable can r g =
      let q : Run S = (ran U M g.calls).left in
      let passes : M.reachable q ≡ true = rw (streaming U M L g.calls).run (L.run-reachable _ (told-fits U M L g.calls)) in
      alike_reachable q r passes g.phase_is g.absorbed_is g.customized_is g.limit_is g.squeezed_is g.positions_are

-- ---- 5 is the status of that test and of no other

module _ {S A : Type 0} (U : Rules A) (M : Machine S A) (no_piece : (n : ℕ) → U.piece n ≡ unreachable → ⊥) (no_argument : (a : A) → U.argument a ≡ unreachable → ⊥) where
  limit_other : (t o : Bool) (n m : ℕ) → (n ≡ unreachable → ⊥) → (m ≡ unreachable → ⊥) → cond o (cond t 0 n) m ≡ unreachable → ⊥
  limit_other true true n m f g e = omega arith
  limit_other false true n m f g e = f e
  limit_other t false n m f g e = g e

  piece_other : (o : Bool) (s n : ℕ) → (s ≡ unreachable → ⊥) → (cond o n 3 ≡ unreachable → ⊥) → cond o (first_of s n) 3 ≡ unreachable → ⊥
  piece_other true zero n f g e = g e
  piece_other true (suc s) n f g e = f e
  piece_other false s n f g e = omega arith

  argument_other : (o : Bool) (a : A) → cond o (U.argument a) 3 ≡ unreachable → ⊥
  argument_other true a e = no_argument a e
  argument_other false a e = omega arith

  customize_other : (o : Bool) (v : Customization A) (n : ℕ) → cond o 3 (customize_status v n) ≡ unreachable → ⊥
  customize_other true v n e = omega arith
  customize_other false none n e = omega arith
  customize_other false (up_to most of) n e = limit_other (leb n most) true 4 0 (λ e. omega arith) (λ e. omega arith) e

  finish_other : (o : Bool) (v : Customization A) → cond o (finish_status v) 3 ≡ unreachable → ⊥
  finish_other true none e = omega arith
  finish_other true (up_to most of) e = omega arith
  finish_other false v e = omega arith

  status_other : (h n m k l : ℕ) (c : Call A) → status_of U h n m k l c ≡ unreachable → ⊥
  status_other h n m k l (absorb p) e =
      piece_other (eqb h 0) (U.piece (length p)) (cond (leb (n + length p) U.input_limit) 0 2) (no_piece (length p))
      (limit_other (leb (n + length p) U.input_limit) (eqb h 0) 2 3 (λ e. omega arith) (λ e. omega arith)) e
  status_other h n m k l (customize p) e = customize_other (eqb h 1) U.customization (m + length p) e
  status_other h n m k l (finalize a) e = argument_other (eqb h 0) a e
  status_other h n m k l finish e = finish_other (eqb h 2) U.customization e
  status_other h n m k l (squeeze j) e = limit_other (leb (k + j) l) (eqb h 1) 6 3 (λ e. omega arith) (λ e. omega arith) e

  pub status-five : (r : Run S) (c : Call A) → (perform U M r c).status ≡ unreachable → M.reachable r ≡ false
  status-five r c e = by (M.reachable r) (sym (perform-status U M r c) ∙ e)
    where
      by : (t : Bool) → cond t (status_of U r.phase r.absorbed (M.customized r.state) r.squeezed (M.limit r.state) c) unreachable ≡ unreachable → t ≡ false
      by true e = absurd (status_other r.phase r.absorbed (M.customized r.state) r.squeezed (M.limit r.state) c e)
      by false e = refl

  pub five-status : (r : Run S) (c : Call A) → M.reachable r ≡ false → (perform U M r c).status ≡ unreachable
  five-status r c e = perform-status U M r c ∙ rw e
