-- Runs that keep no length, and runs with the bit that says SHAKE: lists of calls on them are lists on the runs that the claims speak of.
-- Assumes nothing.
use mathlib.Core.Path.{◌≡◌, refl, sym, ap, ◌∙◌}
use mathlib.Core.List.{List, [], ◌++◌}
use mathlib.Core.Bool.{Bool, true, false, cond}
use Prim.Native.Nat.{ℕ, zero, suc}
use lib.ListN.{length}
use Rattle.sponge.specs.Transcript.{Call, Call.absorb, Call.customize, Call.finalize, Call.finish, Call.squeeze, Reply}
use Rattle.sponge.specs.Runs.{worked, run_status}
use Rattle.sponge.specs.Streaming.{history}
use Rattle.sponge.proofs.Joining.{perform_done, perform-refused}
use Rattle.sponge.proofs.Corollaries.{history-held}
use Rattle.hasher.specs.Model as hasher
use Rattle.hasher.specs.declared.Run.{Run}
use Rattle.sp800_185.specs.Function.{Function, rules, cshake_at}
use Rattle.sp800_185.specs.Model.{machine, seen, performed, answer, written, reply_of, run_reply}
use Rattle.sp800_185.specs.Cshake as customizable
use Rattle.sp800_185.specs.Cshake.{shake_at}
use Rattle.sp800_185.specs.Claims.{Joins}
use Rattle.sp800_185.specs.declared.Keyed.{Keyed}
use Rattle.sp800_185.proofs.Lengths.{Meets}
use Rattle.sp800_185.proofs.Claims.{keyed_is}

-- ---- a function that fixes no length keeps none

module _ {A : Type 0} (F : Function A) (E : Meets F) (free : F.fixes ≡ false) where
  -- nothing but 0 is said
  said-none : (a : A) → F.said a ≡ 0
  said-none a = sym (E.said_fixed a) ∙ ap (λ (f : Bool). cond f (F.said a) 0) free

  worked-none : (r : Run) (c : Call A) → (worked (rules F []) (machine F [] F.least F.most) (seen (record { run = r; length = 0 })) c).state.output_length ≡ 0
  unfolding machine
  worked-none r (absorb x) = refl
  worked-none r (customize x) = refl
  worked-none r (finalize a) = said-none a
  worked-none r finish = refl
  worked-none r (squeeze k) = refl

  kept_none : (r : Run) (c : Call A) → (answer F (record { run = r; length = 0 }) c).keyed.length ≡ 0
  kept_none r c = ap (λ (x : Keyed). x.length) (keyed_is F E (record { run = r; length = 0 }) c) ∙ by (run_status (rules F []) (machine F [] F.least F.most) (seen (record { run = r; length = 0 })) c) refl
    where
      by : (n : ℕ) → run_status (rules F []) (machine F [] F.least F.most) (seen (record { run = r; length = 0 })) c ≡ n → (performed F (record { run = r; length = 0 }) c).left.state.output_length ≡ 0
      by zero e = ap (λ (y : Reply _). y.left.state.output_length) (perform_done (rules F []) (machine F [] F.least F.most) (seen (record { run = r; length = 0 })) c e) ∙ worked-none r c
      by (suc n) e = ap (λ (y : Reply _). y.left.state.output_length) (perform-refused (rules F []) (machine F [] F.least F.most) (seen (record { run = r; length = 0 })) c n e)

  same_reply : (r : Run) (c : Call A)
      → reply_of F (record { run = r; length = 0 }) c ≡ record { status = (run_reply F r c).status; bytes = (run_reply F r c).bytes; left = record { run = (run_reply F r c).left; length = 0 } }
  unfolding reply_of run_reply
  same_reply r c =
      ap (λ (l : ℕ). record { status = (answer F (record { run = r; length = 0 }) c).status; bytes = (performed F (record { run = r; length = 0 }) c).bytes; left = record { run = (answer F (record { run = r; length = 0 }) c).keyed.run; length = l } }) (kept_none r c)

  pub run-history : (cs : List (Call A)) (r : Run)
      → history (reply_of F) (record { run = r; length = 0 }) cs
      ≡ record { statuses = (history (run_reply F) r cs).statuses; bytes = (history (run_reply F) r cs).bytes; left = record { run = (history (run_reply F) r cs).left; length = 0 } }
  run-history cs r = history-held (run_reply F) (reply_of F) (λ (r : Run). record { run = r; length = 0 }) same_reply cs r

-- ---- calls in a row on runs without a length

module _ {A : Type 0} (F : Function A) (E : Meets F) (free : F.fixes ≡ false) where
  abbrev with0 : Run → Keyed
  with0 r = record { run = r; length = 0 }

  abbrev status_at : Run → Call A → ℕ
  status_at r c = (answer F (with0 r) c).status

  abbrev left_at : Run → Call A → Run
  left_at r c = (answer F (with0 r) c).keyed.run

  -- the run that a call leaves, with the length 0, is all that it leaves
  left_whole : (r : Run) (c : Call A) → with0 (left_at r c) ≡ (answer F (with0 r) c).keyed
  left_whole r c = λ i. record { run = left_at r c; length = sym (kept_none F E free r c) i }

  second-status : (r : Run) (c d : Call A) → status_at (left_at r c) d ≡ (answer F (answer F (with0 r) c).keyed d).status
  second-status r c d = ap (λ (x : Keyed). (answer F x d).status) (left_whole r c)

  second_left : (r : Run) (c d : Call A) → left_at (left_at r c) d ≡ (answer F (answer F (with0 r) c).keyed d).keyed.run
  second_left r c d = ap (λ (x : Keyed). (answer F x d).keyed.run) (left_whole r c)

  second-written : (r : Run) (y z : List ℕ) → written F (with0 r) y ++ written F (with0 (left_at r (squeeze (length y)))) z ≡ written F (with0 r) y ++ written F (answer F (with0 r) (squeeze (length y))).keyed z
  second-written r y z = ap (λ (x : Keyed). written F (with0 r) y ++ written F x z) (left_whole r (squeeze (length y)))

  pub run-joins : Joins (λ (x : Keyed) (c : Call A). (answer F x c).status) (λ x c. (answer F x c).keyed) (written F) → Joins status_at left_at (λ r out. written F (with0 r) out)
  run-joins J = record {
    absorb-absorb = λ r a b e f.
        let w = J.absorb-absorb (with0 r) a b e (sym (second-status r (absorb a) (absorb b)) ∙ f) in
        (w.0, second_left r (absorb a) (absorb b) ∙ ap (λ (x : Keyed). x.run) w.1);
    absorb_parts = λ r a b e.
        let w = J.absorb_parts (with0 r) a b e in
        (second-status r (absorb a) (absorb b) ∙ w.0, second_left r (absorb a) (absorb b) ∙ ap (λ (x : Keyed). x.run) w.1);
    absorb-nothing = λ r e. ap (λ (x : Keyed). x.run) (J.absorb-nothing (with0 r) e);
    squeeze-squeeze = λ r y z e f.
        let w = J.squeeze-squeeze (with0 r) y z e (sym (second-status r (squeeze (length y)) (squeeze (length z))) ∙ f) in
        (w.0, second_left r (squeeze (length y)) (squeeze (length z)) ∙ ap (λ (x : Keyed). x.run) w.1, second-written r y z ∙ w.2);
    squeeze_parts = λ r y z e.
        let w = J.squeeze_parts (with0 r) y z e in
        (second-status r (squeeze (length y)) (squeeze (length z)) ∙ w.0, second_left r (squeeze (length y)) (squeeze (length z)) ∙ ap (λ (x : Keyed). x.run) w.1, second-written r y z ∙ w.2);
    squeeze-nothing = λ r e. ap (λ (x : Keyed). x.run) (J.squeeze-nothing (with0 r) e);
  }

-- ---- cSHAKE by its bit

module _ (rate most : ℕ) where
  named-reply : (r : Run) (c : Call (Unit {0}))
      → customizable.reply_of rate most (record { run = r; shake = false }) c
      ≡ record { status = (run_reply (cshake_at rate most) r c).status; bytes = (run_reply (cshake_at rate most) r c).bytes; left = record { run = (run_reply (cshake_at rate most) r c).left; shake = false } }
  unfolding customizable.reply_of customizable.answer run_reply
  named-reply r c = refl

  pub named-history : (cs : List (Call (Unit {0}))) (r : Run)
      → history (customizable.reply_of rate most) (record { run = r; shake = false }) cs
      ≡ record {
        statuses = (history (run_reply (cshake_at rate most)) r cs).statuses;
        bytes = (history (run_reply (cshake_at rate most)) r cs).bytes;
        left = record { run = (history (run_reply (cshake_at rate most)) r cs).left; shake = false };
      }
  named-history cs r = history-held (run_reply (cshake_at rate most)) (customizable.reply_of rate most) (λ (r : Run). record { run = r; shake = false }) named-reply cs r

  shake-reply : (r : Run) (c : Call (Unit {0}))
      → customizable.reply_of rate most (record { run = r; shake = true }) c
      ≡ record { status = (hasher.reply_of (shake_at rate) r c).status; bytes = (hasher.reply_of (shake_at rate) r c).bytes; left = record { run = (hasher.reply_of (shake_at rate) r c).left; shake = true } }
  unfolding customizable.reply_of customizable.answer hasher.reply_of
  shake-reply r c = refl

  pub shake-history : (cs : List (Call (Unit {0}))) (r : Run)
      → history (customizable.reply_of rate most) (record { run = r; shake = true }) cs
      ≡ record {
        statuses = (history (hasher.reply_of (shake_at rate)) r cs).statuses;
        bytes = (history (hasher.reply_of (shake_at rate)) r cs).bytes;
        left = record { run = (history (hasher.reply_of (shake_at rate)) r cs).left; shake = true };
      }
  shake-history cs r = history-held (hasher.reply_of (shake_at rate)) (customizable.reply_of rate most) (λ (r : Run). record { run = r; shake = true }) shake-reply cs r
