-- What a caller knows of calls in a row after a start of a function of SP 800-185: a message absorbed in whatever pieces, finalized and squeezed.
-- Assumes nothing.
use mathlib.Core.Path.{◌≡◌, refl, ap, ◌∙◌}
use mathlib.Core.List.{List, [], ◌++◌}
use Prim.Native.Nat.{ℕ, suc, ◌*◌, ◌≤◌, ◌<◌}
use lib.ListN.{length}
use Rattle.sponge.specs.Transcript.{Call, Call.absorb, Call.finalize, Call.squeeze, Reply, lent}
use Rattle.sponge.specs.Runs.{Run, perform}
use Rattle.sponge.proofs.Streaming.{Laws}
use Rattle.sponge.proofs.Pieces as pieces
use Rattle.hasher.specs.Function.{message_limit}
use Rattle.sp800_185.specs.Function.{Function, argument, limit, output, rules}
use Rattle.sp800_185.specs.Model.{State, machine, held, answer, written}
use Rattle.sp800_185.proofs.Lengths.{Meets}
use Rattle.sp800_185.proofs.Ranges.{laws}
use Rattle.sp800_185.proofs.Claims.{replied, any_start, answer_replied, written-lent}

-- a start that absorbs p: so many blocks before its last
pub record Begun {A : Type 0} (F : Function A) (p : List ℕ) : Type 0 where
  pub meets : Meets F
  pub before : ℕ
  pub least_fits : F.least ≤ suc before
  pub most-fits : suc before ≤ F.most
  pub blocks : length p ≡ suc before * F.rate

module _ {A : Type 0} (F : Function A) (p : List ℕ) where
  -- the run after the message m, and after its finalize with a
  abbrev pub after : List ℕ → Run State
  after m = pieces.absorbed_run (rules F p) (machine F p F.least F.most) m

  abbrev pub closed : List ℕ → A → Run State
  closed m a = pieces.finalized_run (rules F p) (machine F p F.least F.most) m a

module _ {A : Type 0} (F : Function A) (p : List ℕ) (B : Begun F p) where
  lawful : Laws (rules F p) (machine F p F.least F.most)
  lawful = laws F p F.least F.most B.meets.positive B.before B.least_fits B.most-fits B.blocks B.meets

  answer_is : (r : Run State) (c : Call A) (y : Reply (Run State)) → perform (rules F p) (machine F p F.least F.most) r c ≡ y → answer F (held r) c ≡ replied y
  answer_is r c y h = answer_replied F B.meets (held r) c ∙ ap replied (any_start F B.meets r [] p c ∙ h)

  written_is : (r : Run State) (out : List ℕ) (y : Reply (Run State)) → perform (rules F p) (machine F p F.least F.most) r (squeeze (length out)) ≡ y → written F (held r) out ≡ lent y.status y.bytes out
  written_is r out y h = written-lent F B.meets (held r) out ∙ ap (λ (y : Reply (Run State)). lent y.status y.bytes out) (any_start F B.meets r [] p (squeeze (length out)) ∙ h)

  pub absorb_piece : (m x : List ℕ) → length (m ++ x) ≤ message_limit → answer F (held (after F p m)) (absorb x) ≡ record { keyed = held (after F p (m ++ x)); status = 0 }
  unfolding rules
  absorb_piece m x l = answer_is (after F p m) (absorb x) _ (pieces.absorb_piece (rules F p) (machine F p F.least F.most) lawful m x refl l)

  pub absorb_long : (m x : List ℕ) → length m ≤ message_limit → message_limit < length (m ++ x) → (answer F (held (after F p m)) (absorb x)).status ≡ 2
  unfolding rules
  absorb_long m x h l =
      let w = answer_is (after F p m) (absorb x) _ (pieces.absorb_long (rules F p) (machine F p F.least F.most) lawful m x refl h l) in
      λ i. (w i).status

  module _ (a : A) (taken : argument F a ≡ 0) where
    pub finalize-run : (m : List ℕ) → length m ≤ message_limit → answer F (held (after F p m)) (finalize a) ≡ record { keyed = held (closed F p m a); status = 0 }
    unfolding rules
    finalize-run m h = answer_is (after F p m) (finalize a) _ (pieces.finalize-run (rules F p) (machine F p F.least F.most) lawful m a h taken)

    -- the output, or a refusal that leaves the lent one as it was
    pub squeeze-run : (m out : List ℕ) → length m ≤ message_limit → length out ≤ limit F (F.said a)
        → ((answer F (held (closed F p m a)) (squeeze (length out))).status ≡ 0) × (written F (held (closed F p m a)) out ≡ output F p m a (length out))
    unfolding rules
    squeeze-run m out h l =
        let w = pieces.squeeze-run (rules F p) (machine F p F.least F.most) lawful m a (length out) h taken l in
        let v = answer_is (closed F p m a) (squeeze (length out)) _ w in
        (λ i. (v i).status, written_is (closed F p m a) out _ w)

    pub squeeze_long : (m out : List ℕ) → length m ≤ message_limit → limit F (F.said a) < length out
        → ((answer F (held (closed F p m a)) (squeeze (length out))).status ≡ 6) × (written F (held (closed F p m a)) out ≡ out)
    unfolding rules
    squeeze_long m out h l =
        let w = pieces.squeeze_long (rules F p) (machine F p F.least F.most) lawful m a (length out) h taken l in
        let v = answer_is (closed F p m a) (squeeze (length out)) _ w in
        (λ i. (v i).status, written_is (closed F p m a) out _ w)
