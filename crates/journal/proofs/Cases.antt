-- The cases of what each call answers, for the proofs of the code. Assumes nothing.
use mathlib.Core.Path.{◌≡◌, sym, ap, ◌∙◌}
use mathlib.Core.List.{List, [], ◌++◌}
use Prim.Native.Nat.{ℕ, ◌≤◌, ◌<◌}
use borrow.Author.Tests.{le-leb, lt-leb}
use lib.ListN.{length}
use Rattle.sponge.specs.Status.{first_of}
use Rattle.sponge.specs.Transcript.{Call, Call.absorb, Call.squeeze, Reply, lent}
use Rattle.sponge.specs.Runs as runs
use Rattle.sponge.specs.Runs.{perform}
use Rattle.sponge.proofs.Joining.{Stays}
use Rattle.sponge.proofs.Both as both
use Rattle.sponge.proofs.PieceStatus.{Agree, perform_same, absorb_other}
use Rattle.kangarootwelve.specs.Transcript as kt-transcript
use Rattle.kangarootwelve.specs.Model as kt
use Rattle.kangarootwelve.specs.Model.{Nodes, machine, seen, held}
use Rattle.kangarootwelve.specs.declared.Run.{Run}
use Rattle.kangarootwelve.proofs.Laws as kt-laws
use Rattle.kangarootwelve.proofs.Answers.{fresh_is, answer_is, output_is, piece-taken}
use Rattle.journal.specs.Published.{framed}
use Rattle.journal.specs.Transcript.{event_limit, event_status, own_status, framed_call, rules_at}
use Rattle.journal.specs.Model.{day_of, fresh_day, performed, answer_of, output_of}
use Rattle.journal.specs.Inside.{as_day}
use Rattle.journal.specs.declared.Journal.{Journal}
use Rattle.journal.specs.declared.Answer.{Answer}
use Rattle.journal.proofs.Streaming.{rate_positive, laws}

stays : Stays (kt-transcript.rules 168 32) (machine 168 32)
stays = kt-laws.stays 168 32 rate_positive

-- an event is taken up to its limit
pub event_0 : (n : ℕ) → n ≤ event_limit → event_status n ≡ 0
unfolding event_status
event_0 n h = rw (le-leb n event_limit h)

event_8 : (n : ℕ) → event_limit < n → event_status n ≡ 8
unfolding event_status
event_8 n h = rw (lt-leb n event_limit h)

pub fresh_day_lem : ◌≡◌ {A = Journal} (record { run = kt.fresh_of 168 32 }) fresh_day
unfolding fresh_day
fresh_day_lem = ap (λ (r : Run). record { run = r }) (fresh_is 168 32)

module _ (r : Run) where
  -- ---- a call of a day by one of KT128

  same_answer : (c : Call (List ℕ)) → perform (kt-transcript.rules 168 32) (machine 168 32) (seen r) (framed_call c) ≡ performed (record { run = r }) c
      → as_day (kt.answer_of 168 32 r (framed_call c)) ≡ answer_of (record { run = r }) c
  unfolding answer_of
  same_answer c e =
      ap as_day (answer_is 168 32 r (framed_call c)) ∙ ap (λ (y : Reply (runs.Run Nodes)). record { journal = day_of y.left; status = y.status }) e

  -- any call but the append of a long event
  pub call-answer : (c : Call (List ℕ)) → Agree (kt-transcript.rules 168 32) (λ n. own_status c) (framed_call c)
      → as_day (kt.answer_of 168 32 r (framed_call c)) ≡ answer_of (record { run = r }) c
  unfolding performed rules_at
  call-answer c e = same_answer c (perform_same (kt-transcript.rules 168 32) (machine 168 32) (λ n. own_status c) (seen r) (framed_call c) e)

  pub short_answer : (e : List ℕ) → length e ≤ event_limit → as_day (kt.answer_of 168 32 r (absorb (framed e))) ≡ answer_of (record { run = r }) (absorb e)
  short_answer e h = call-answer (absorb e) (piece-taken 168 32 (length (framed e)) ∙ sym (event_0 (length e) h))

  pub squeeze_output_lem : (out : List ℕ) → kt.output_of 168 32 r out ≡ output_of (record { run = r }) out
  unfolding output_of performed rules_at
  squeeze_output_lem out =
      output_is 168 32 r out
      ∙ ap (λ (y : Reply (runs.Run Nodes)). lent y.status y.bytes out) (perform_same (kt-transcript.rules 168 32) (machine 168 32) (λ n. own_status (squeeze (length out))) (seen r) (squeeze (length out)) tt)

  -- a long event: what an empty piece would get, and 8 where that is taken
  pub long_answer : (e : List ℕ) → event_limit < length e
      → ◌≡◌ {A = Answer} (record { journal = record { run = r }; status = first_of (kt.answer_of 168 32 r (absorb [])).status 8 }) (answer_of (record { run = r }) (absorb e))
  unfolding answer_of performed rules_at
  long_answer e h =
      ap (λ (a : kt.Answer). record { journal = record { run = r }; status = first_of a.status 8 }) (answer_is 168 32 r (absorb []))
      ∙ ap (λ (y : Reply (runs.Run Nodes)). record { journal = day_of y.left; status = y.status })
      (sym (absorb_other (kt-transcript.rules 168 32) (machine 168 32) (λ n. own_status (absorb e)) (seen r) (framed e) 7 (λ f. (kt-laws.shape 168 32 (seen r) f).absorbed-fits) (piece-taken 168 32 0) (event_8 (length e) h)))

  -- ---- two pieces, both or neither

  module _ (a b : List ℕ) where
    abbrev first : kt.Answer
    first = kt.answer_of 168 32 r (absorb a)

    abbrev second : kt.Answer
    second = kt.answer_of 168 32 first.run (absorb b)

    -- the same by the run below
    once : Reply (runs.Run Nodes)
    once = perform (kt-transcript.rules 168 32) (machine 168 32) (seen r) (absorb a)

    twice : Reply (runs.Run Nodes)
    twice = perform (kt-transcript.rules 168 32) (machine 168 32) once.left (absorb b)

    first_is : first ≡ record { status = once.status; run = held once.left }
    unfolding once
    first_is = answer_is 168 32 r (absorb a)

    second_is : second ≡ record { status = twice.status; run = held twice.left }
    unfolding twice
    second_is = ap (λ (x : kt.Answer). kt.answer_of 168 32 x.run (absorb b)) first_is ∙ answer_is 168 32 (held once.left) (absorb b)

    joined_is : (y : Reply (runs.Run Nodes)) → perform (kt-transcript.rules 168 32) (machine 168 32) (seen r) (absorb (a ++ b)) ≡ y
        → record { journal = day_of y.left; status = y.status } ≡ as_day (kt.answer_of 168 32 r (absorb (a ++ b)))
    joined_is y e = sym (ap as_day (answer_is 168 32 r (absorb (a ++ b))) ∙ ap (λ (y : Reply (runs.Run Nodes)). record { journal = day_of y.left; status = y.status }) e)

    pub first_refused : (first.status ≡ 0 → ⊥) → ◌≡◌ {A = Answer} (record { journal = record { run = r }; status = first.status }) (as_day (kt.answer_of 168 32 r (absorb (a ++ b))))
    unfolding once
    first_refused n =
        let s : first.status ≡ once.status = ap (λ (x : kt.Answer). x.status) first_is in
        ap (λ (k : ℕ). record { journal = record { run = r }; status = k }) s
        ∙ joined_is _ (both.first_refused (kt-transcript.rules 168 32) (machine 168 32) laws stays (piece-taken 168 32) (seen r) a b (λ e. n (s ∙ e)))

    pub second-refused : first.status ≡ 0 → (second.status ≡ 0 → ⊥)
        → ◌≡◌ {A = Answer} (record { journal = record { run = r }; status = second.status }) (as_day (kt.answer_of 168 32 r (absorb (a ++ b))))
    unfolding once twice
    second-refused e n =
        let f : first.status ≡ once.status = ap (λ (x : kt.Answer). x.status) first_is in
        let s : second.status ≡ twice.status = ap (λ (x : kt.Answer). x.status) second_is in
        ap (λ (k : ℕ). record { journal = record { run = r }; status = k }) s
        ∙ joined_is _ (both.second-refused (kt-transcript.rules 168 32) (machine 168 32) laws stays (piece-taken 168 32) (seen r) a b (sym f ∙ e) (λ z. n (s ∙ z)))

    pub both_done : first.status ≡ 0 → second.status ≡ 0 → as_day second ≡ as_day (kt.answer_of 168 32 r (absorb (a ++ b)))
    unfolding once twice
    both_done e z =
        let f : first.status ≡ once.status = ap (λ (x : kt.Answer). x.status) first_is in
        let s : second.status ≡ twice.status = ap (λ (x : kt.Answer). x.status) second_is in
        ap as_day second_is
        ∙ joined_is twice (both.both_done (kt-transcript.rules 168 32) (machine 168 32) laws stays (piece-taken 168 32) (seen r) a b (sym f ∙ e) (sym s ∙ z))
