-- What follows for every machine that meets `Laws`: pieces in a row are the joined piece, nothing changes nothing, bytes squeezed in
-- a row are squeezed at once, and equal transcripts leave the same run.
-- Assumes nothing.
use mathlib.Core.Path.{◌≡◌, refl, sym, ap, ◌∙◌}
use mathlib.Core.List.{List, [], ◌∷◌, ◌++◌, append-nil, append_assoc}
use mathlib.Core.Bool.{true, false}
use Prim.Native.Nat.{ℕ, zero, suc, ◌+◌, ◌≤◌}
use native.Mathlib.Nat.{add-zero, add_assoc}
use native.Mathlib.Omega.{arith}
use lib.ListN.{length, length-append}
use lib.Dec.{eqb, leb}
use borrow.Author.Tests.{eq-eqb, ne_eqb, le-leb}
use Rattle.sponge.specs.Transcript.{Call, Call.absorb, Call.customize, Call.finalize, Call.finish, Call.squeeze, Transcript, Customization.up_to, Rules, Reply, status_of, status_at, given, written, transcribe, reply}
use Rattle.sponge.specs.Runs.{Run, Machine, worked, bytes_out, run_status, perform, run_of}
use Rattle.sponge.specs.Streaming.{history, joined, told, ran}
use Rattle.sponge.proofs.Streaming.{nothing, Customizes, Laws, owed, streaming}

-- the pieces of C in order, and the close of their phase
abbrev pub customizes : {A : Type 0} → List (List ℕ) → List (Call A)
customizes [] = finish ∷ []
customizes (p ∷ ps) = customize p ∷ customizes ps

-- ---- of every machine, whatever the run

module _ {S A : Type 0} (U : Rules A) (M : Machine S A) where
  -- a call by its status
  -- what a call does, for crates above
  pub perform_is : (r : Run S) (c : Call A) → perform U M r c ≡ reply (run_status U M r c) (bytes_out U M r c) (worked U M r c) r
  unfolding perform
  perform_is r c = refl

  pub perform_done : (r : Run S) (c : Call A) → run_status U M r c ≡ 0 → perform U M r c ≡ record { status = 0; bytes = bytes_out U M r c; left = worked U M r c }
  unfolding perform
  perform_done r c e = rw e

  pub perform-refused : (r : Run S) (c : Call A) (n : ℕ) → run_status U M r c ≡ suc n → perform U M r c ≡ record { status = suc n; bytes = []; left = r }
  unfolding perform
  perform-refused r c n e = rw e

  pub perform-status : (r : Run S) (c : Call A) → (perform U M r c).status ≡ run_status U M r c
  perform-status r c = by (run_status U M r c) refl
    where
      by : (v : ℕ) → run_status U M r c ≡ v → (perform U M r c).status ≡ v
      by zero e = ap (λ (y : Reply (Run S)). y.status) (perform_done r c e)
      by (suc v) e = ap (λ (y : Reply (Run S)). y.status) (perform-refused r c v e)

  -- a refused call hands back the run that it got, and gives no byte
  pub refused : (r : Run S) (c : Call A) (n : ℕ) → (perform U M r c).status ≡ suc n → ((perform U M r c).left ≡ r) × ((perform U M r c).bytes ≡ [])
  refused r c n e =
      let p = perform-refused r c n (sym (perform-status r c) ∙ e) in
      (ap (λ (y : Reply (Run S)). y.left) p, ap (λ (y : Reply (Run S)). y.bytes) p)

  -- an absorb with status 0 grew the total by the piece's length
  pub absorb_grows : (r : Run S) (p : List ℕ) → (perform U M r (absorb p)).status ≡ 0 → (perform U M r (absorb p)).left.absorbed ≡ r.absorbed + length p
  absorb_grows r p e = ap (λ (y : Reply (Run S)). y.left.absorbed) (perform_done r (absorb p) (sym (perform-status r (absorb p)) ∙ e))

  -- and a customization piece the customization bytes
  pub customize_grows : Laws U M → (most : ℕ) (of : List ℕ → A) → U.customization ≡ up_to most of → (r : Run S) (p : List ℕ) → (perform U M r (customize p)).status ≡ 0
      → M.customized (perform U M r (customize p)).left.state ≡ M.customized r.state + length p
  customize_grows L most of named r p e =
      ap (λ (y : Reply (Run S)). M.customized y.left.state) (perform_done r (customize p) (sym (perform-status r (customize p)) ∙ e))
      ∙ (owed U M L most of named).customized_grows r.absorbed r.state p

-- the transcript likewise
module _ {A : Type 0} (U : Rules A) where
  pub transcribe_done : (t : Transcript A) (c : Call A) → status_at U t c ≡ 0
      → transcribe U t c ≡ record { status = 0; bytes = given U t c; left = written U t c }
  unfolding transcribe
  transcribe_done t c e = rw e

  pub transcribe-refused : (t : Transcript A) (c : Call A) (n : ℕ) → status_at U t c ≡ suc n
      → transcribe U t c ≡ record { status = suc n; bytes = []; left = t }
  unfolding transcribe
  transcribe-refused t c n e = rw e

  pub transcribe-status : (t : Transcript A) (c : Call A) → (transcribe U t c).status ≡ status_at U t c
  transcribe-status t c = by (status_at U t c) refl
    where
      by : (v : ℕ) → status_at U t c ≡ v → (transcribe U t c).status ≡ v
      by zero e = ap (λ (y : Reply (Transcript A)). y.status) (transcribe_done t c e)
      by (suc v) e = ap (λ (y : Reply (Transcript A)). y.status) (transcribe-refused t c v e)

-- what a machine owes beside `Laws`: a run that 5 does not refuse is one after each call with status 0
abbrev pub Stays : {S A : Type 0} → Rules A → Machine S A → Type 0
Stays {S} {A} U M = (r : Run S) (c : Call A) → M.reachable r ≡ true → status_of U r.phase r.absorbed (M.customized r.state) r.squeezed (M.limit r.state) c ≡ 0 → M.reachable (worked U M r c) ≡ true

-- ---- of every run that 5 does not refuse, reached or not

module _ {S A : Type 0} (U : Rules A) (M : Machine S A) (L : Laws U M) (stays : Stays U M) where
  pub absorb-absorb : (r : Run S) (a b : List ℕ) → M.reachable r ≡ true → r.phase ≡ 0 → r.absorbed + length (a ++ b) ≤ U.input_limit
      → U.piece (length a) ≡ 0 → U.piece (length b) ≡ 0 → U.piece (length (a ++ b)) ≡ 0
      → perform U M (perform U M r (absorb a)).left (absorb b) ≡ perform U M r (absorb (a ++ b))
  unfolding perform
  absorb-absorb r a b h o l f g w =
      let l' : r.absorbed + (length a + length b) ≤ U.input_limit = rw length-append at l in
      let open0 : eqb r.phase 0 ≡ true = eq-eqb _ _ o in
      let first : leb (r.absorbed + length a) U.input_limit ≡ true = le-leb (r.absorbed + length a) U.input_limit (omega arith) in
      let second : leb (r.absorbed + length a + length b) U.input_limit ≡ true = le-leb (r.absorbed + length a + length b) U.input_limit (omega arith) in
      let whole : leb (r.absorbed + length (a ++ b)) U.input_limit ≡ true = le-leb (r.absorbed + length (a ++ b)) U.input_limit l in
      let after-a : perform U M r (absorb a) ≡ record { status = 0; bytes = []; left = worked U M r (absorb a) } = rw (h, open0, f, first) in
      let h' : M.reachable (worked U M r (absorb a)) ≡ true = stays r (absorb a) h (rw (open0, f, first)) in
      rw after-a (rw (h', h, open0, g, w, second, whole) (rw (L.absorb-append r.absorbed r.state a b, length-append a b, ← add_assoc)))

  pub absorb-nothing : (r : Run S) → M.reachable r ≡ true → r.phase ≡ 0 → r.absorbed ≤ U.input_limit → U.piece 0 ≡ 0
      → perform U M r (absorb []) ≡ record { status = 0; bytes = []; left = r }
  unfolding perform
  absorb-nothing r h o l f =
      let open0 : eqb r.phase 0 ≡ true = eq-eqb _ _ o in
      let fits : leb r.absorbed U.input_limit ≡ true = le-leb r.absorbed U.input_limit l in
      rw (h, open0, f, add-zero, fits, L.absorb-nothing r.absorbed r.state)

  -- the bytes are the joined ones, and the run left is the same
  pub squeeze-squeeze : (r : Run S) (m n : ℕ) → M.reachable r ≡ true → r.phase ≡ 1 → r.squeezed + (m + n) ≤ M.limit r.state
      → record {
        status = (perform U M (perform U M r (squeeze m)).left (squeeze n)).status;
        bytes = (perform U M r (squeeze m)).bytes ++ (perform U M (perform U M r (squeeze m)).left (squeeze n)).bytes;
        left = (perform U M (perform U M r (squeeze m)).left (squeeze n)).left;
      } ≡ perform U M r (squeeze (m + n))
  unfolding perform
  squeeze-squeeze r m n h o l =
      let open1 : eqb r.phase 1 ≡ true = eq-eqb _ _ o in
      let first : leb (r.squeezed + m) (M.limit r.state) ≡ true = le-leb (r.squeezed + m) (M.limit r.state) (omega arith) in
      let second : leb (r.squeezed + m + n) (M.limit r.state) ≡ true = le-leb (r.squeezed + m + n) (M.limit r.state) (omega arith) in
      let whole : leb (r.squeezed + (m + n)) (M.limit r.state) ≡ true = le-leb (r.squeezed + (m + n)) (M.limit r.state) l in
      let after-m : perform U M r (squeeze m) ≡ record { status = 0; bytes = M.squeeze m r.state; left = worked U M r (squeeze m) } = rw (h, open1, first) in
      let h' : M.reachable (worked U M r (squeeze m)) ≡ true = stays r (squeeze m) h (rw (open1, first)) in
      rw after-m (rw (h', h, open1, L.limit-after m r.state, second, whole) (rw (L.after-add m n r.state, L.squeeze-add m n r.state, ← add_assoc)))

  pub squeeze-nothing : (r : Run S) → M.reachable r ≡ true → r.phase ≡ 1 → r.squeezed ≤ M.limit r.state
      → perform U M r (squeeze 0) ≡ record { status = 0; bytes = []; left = r }
  unfolding perform
  squeeze-nothing r h o l =
      let open1 : eqb r.phase 1 ≡ true = eq-eqb _ _ o in
      let fits : leb r.squeezed (M.limit r.state) ≡ true = le-leb r.squeezed (M.limit r.state) l in
      let none : M.squeeze 0 r.state ≡ [] = sym (nothing _ (L.squeeze-length 0 r.state)) in
      rw (h, open1, add-zero, fits, L.after-zero r.state, none)

  -- ---- within the customization phase, of a function that has one; its first piece may come in the message phase

  module _ (most : ℕ) (of : List ℕ → A) (named : U.customization ≡ up_to most of) where
    abbrev phase : Customizes U M most of
    phase = owed U M L most of named

    pub customize-customize : (r : Run S) (a b : List ℕ) → M.reachable r ≡ true → (r.phase ≡ 1 → ⊥) → M.customized r.state + length (a ++ b) ≤ most
        → perform U M (perform U M r (customize a)).left (customize b) ≡ perform U M r (customize (a ++ b))
    unfolding perform
    customize-customize r a b h o l =
        let k : M.customized r.state + (length a + length b) ≤ most = rw length-append at l in
        let open0 : eqb r.phase 1 ≡ false = ne_eqb _ _ o in
        let first : leb (M.customized r.state + length a) most ≡ true = le-leb (M.customized r.state + length a) most (omega arith) in
        let second : leb (M.customized r.state + length a + length b) most ≡ true = le-leb (M.customized r.state + length a + length b) most (omega arith) in
        let whole : leb (M.customized r.state + length (a ++ b)) most ≡ true = le-leb (M.customized r.state + length (a ++ b)) most l in
        let after-a : perform U M r (customize a) ≡ record { status = 0; bytes = []; left = worked U M r (customize a) } = rw (h, open0, named, first) in
        let h' : M.reachable (worked U M r (customize a)) ≡ true = stays r (customize a) h (rw (open0, named, first)) in
        rw after-a (rw (h', h, open0, named, phase.customized_grows r.absorbed r.state a, second, whole) (rw (phase.customize-append r.absorbed r.state a b)))

    pub customize-nothing : (r : Run S) → M.reachable r ≡ true → r.phase ≡ 2 → M.customized r.state ≤ most
        → perform U M r (customize []) ≡ record { status = 0; bytes = []; left = r }
    unfolding perform
    customize-nothing r h o l =
        let open2 : eqb r.phase 1 ≡ false = rw o in
        let fits : leb (M.customized r.state) most ≡ true = le-leb (M.customized r.state) most l in
        rw (h, open2, named, add-zero, fits, phase.customize-nothing r.absorbed r.state, ← o)

    -- the bridge: all of C as one piece and the close of its phase leave the run, and have the status, that the finalize with C does
    pub finish-finalize : (r : Run S) (c : List ℕ) → M.reachable r ≡ true → r.phase ≡ 0 → M.customized r.state ≡ 0 → length c ≤ most
        → perform U M (perform U M r (customize c)).left finish ≡ perform U M r (finalize (of c))
    unfolding perform
    finish-finalize r c h o z l =
        let open0 : eqb r.phase 1 ≡ false = rw o in
        let open1 : eqb r.phase 0 ≡ true = eq-eqb _ _ o in
        let fits : leb (M.customized r.state + length c) most ≡ true = le-leb (M.customized r.state + length c) most (omega arith) in
        let after-c : perform U M r (customize c) ≡ record { status = 0; bytes = []; left = worked U M r (customize c) } = rw (h, open0, named, fits) in
        let h' : M.reachable (worked U M r (customize c)) ≡ true = stays r (customize c) h (rw (open0, named, fits)) in
        rw after-c (rw (h', h, open1, named, phase.argument-taken c l) (rw (phase.finish-finalize r.absorbed r.state c z)))

    -- and so do pieces of C, however many
    pub pieces-finalize : (ps : List (List ℕ)) (r : Run S) (p : List ℕ) → M.reachable r ≡ true → r.phase ≡ 0 → M.customized r.state ≡ 0 → length (p ++ joined ps) ≤ most
        → (history (perform U M) r (customize p ∷ customizes ps)).left ≡ (perform U M r (finalize (of (p ++ joined ps)))).left
    pieces-finalize [] r p h o z l =
        ap (λ (y : Reply (Run S)). y.left) (finish-finalize r p h o z (rw append-nil at l)) ∙ rw (append-nil p)
    pieces-finalize (q ∷ ps) r p h o z l =
        let k : length p + (length q + length (joined ps)) ≤ most = rw (length-append, length-append) at l in
        let both : M.customized r.state + length (p ++ q) ≤ most = rw (z, length-append p q) (omega arith) in
        let e : perform U M (perform U M r (customize p)).left (customize q) ≡ perform U M r (customize (p ++ q)) =
        customize-customize r p q h (λ f. let g : 0 ≡ 1 = sym o ∙ f in omega arith) both in
        ap (λ (y : Reply (Run S)). (history (perform U M) y.left (customizes ps)).left) e
        ∙ pieces-finalize ps r (p ++ q) h o z (rw (append_assoc p q (joined ps)) l)
        ∙ rw (append_assoc p q (joined ps))

-- ---- of reached runs

module _ {S A : Type 0} (U : Rules A) (M : Machine S A) (L : Laws U M) where
  pub equal_transcripts : (cs ds : List (Call A)) → (told U M cs).left ≡ (told U M ds).left → (ran U M cs).left ≡ (ran U M ds).left
  equal_transcripts cs ds e = (streaming U M L cs).run ∙ ap (run_of U M) e ∙ sym (streaming U M L ds).run
