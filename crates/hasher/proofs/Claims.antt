-- The claims of specs/Claims.antt, for every function that meets `Meets`: those of the machine, on the code's own runs.
-- Assumes nothing.
use mathlib.Core.Path.{◌≡◌, refl, sym, ap, ◌∙◌}
use mathlib.Core.List.{List, [], ◌++◌}
use mathlib.Core.Bool.{Bool, cond}
use Prim.Native.Nat.{ℕ, suc, ◌+◌, ◌-◌, ◌≤◌}
use native.Mathlib.Omega.{arith}
use lib.ListN.{length, take, length-append}
use lib.Dec.{eqb}
use lib.Seq.{take-append_seam}
use borrow.Author.Tests.{eq-eqb, ne_eqb}
use Rattle.sponge.specs.Count.{Counted, open_count, closed_count}
use Rattle.sponge.specs.Transcript.{Call, Call.absorb, Call.squeeze, phase_number, Transcript, Reply, lent}
use Rattle.sponge.specs.Runs as runs
use Rattle.sponge.specs.Runs.{fresh_run, perform, run_of}
use Rattle.sponge.specs.Streaming as streaming
use Rattle.sponge.specs.Streaming.{History, history, joined}
use Rattle.sponge.proofs.Corollaries.{history-held}
use Rattle.sponge.proofs.Reachable as generic
use Rattle.sponge.proofs.Done as done
use Rattle.sponge.proofs.Count.{open_words, closed_words_lem}
use Rattle.hasher.specs.Function.{Function, output, rules}
use Rattle.hasher.specs.Model.{machine, seen, held, fresh_of, perform_of, written_of, answer, written, reply_of, progress_of, run_with, one_go_status, one_go_output}
use Rattle.hasher.specs.Claims.{Lent, lent_run, fresh_lent, Meets, told, ran, Streaming, Counts, Promised, Calls, Joins, Callable, Reached, Five, OneGo, Claims}
use Rattle.hasher.specs.declared.Run.{Run}
use Rattle.hasher.specs.declared.Answer.{Answer}
use Rattle.hasher.proofs.Guards.{answer_is, output_is, answer_same, written_same}
use Rattle.hasher.proofs.OneGo.{at_lent}
use Rattle.hasher.proofs.Laws.{positions, first_is, second_is as number_is, pair, laws, stays}
use Rattle.hasher.proofs.Streaming.{positive, corollaries, count_defined, count_told}

-- a reply of the machine on the code's structs
abbrev pub replied : Reply (runs.Run Counted) → Answer
replied y = record { run = held y.left; status = y.status }

module _ {A : Type 0} (F : Function A) (E : Meets F) where
  -- ---- a call on the code's runs is the machine's

  pub answer_replied : (r : Run) (c : Call A) → answer F r c ≡ replied (perform (rules F) (machine F) (seen r) c)
  unfolding perform_of
  answer_replied r c = answer_same F r c ∙ sym (answer_is F E.taken r c)

  pub written-lent : (r : Run) (out : List ℕ)
      → written F r out ≡ lent (perform (rules F) (machine F) (seen r) (squeeze (length out))).status (perform (rules F) (machine F) (seen r) (squeeze (length out))).bytes out
  unfolding written_of
  written-lent r out = written_same F r out ∙ sym (output_is F E.taken r out)

  status_is : (r : Run) (c : Call A) → (answer F r c).status ≡ (perform (rules F) (machine F) (seen r) c).status
  status_is r c = ap (λ (a : Answer). a.status) (answer_replied r c)

  run_is : (r : Run) (c : Call A) → (answer F r c).run ≡ held (perform (rules F) (machine F) (seen r) c).left
  run_is r c = ap (λ (a : Answer). a.run) (answer_replied r c)

  -- the second of two calls in a row
  second_is : (r : Run) (c d : Call A) → answer F (answer F r c).run d ≡ replied (perform (rules F) (machine F) (perform (rules F) (machine F) (seen r) c).left d)
  second_is r c d = ap (λ (q : Run). answer F q d) (run_is r c) ∙ answer_replied (held (perform (rules F) (machine F) (seen r) c).left) d

  first_done : (r : Run) (c : Call A) → (answer F r c).status ≡ 0 → (perform (rules F) (machine F) (seen r) c).status ≡ 0
  first_done r c e = sym (status_is r c) ∙ e

  second_done : (r : Run) (c d : Call A) → (answer F (answer F r c).run d).status ≡ 0 → (perform (rules F) (machine F) (perform (rules F) (machine F) (seen r) c).left d).status ≡ 0
  second_done r c d e = sym (ap (λ (a : Answer). a.status) (second_is r c d)) ∙ e

  -- ---- lists of calls

  ran-held : (cs : List (Call A))
      → ran F cs ≡ record {
        statuses = (streaming.ran (rules F) (machine F) cs).statuses;
        bytes = (streaming.ran (rules F) (machine F) cs).bytes;
        left = held (streaming.ran (rules F) (machine F) cs).left;
      }
  unfolding fresh_of reply_of machine
  ran-held cs =
      history-held (perform (rules F) (machine F)) (reply_of F) held
      (λ r c. ap (λ (a : Answer). record { status = a.status; bytes = (perform (rules F) (machine F) r c).bytes; left = a.run }) (answer_replied (held r) c))
      cs (fresh_run (rules F) (machine F))

  run_told_lem : (cs : List (Call A)) → (ran F cs).left ≡ held (run_of (rules F) (machine F) (told F cs).left)
  run_told_lem cs = ap (λ (h : History Run). h.left) (ran-held cs) ∙ ap held ((corollaries F E).streaming cs).run

  -- each call on lent lanes is the one on the run of both, and so is the list
  streams-lent : (f : Lent → Call A → Reply Lent) → Promised F f → (cs : List (Call A))
      → ran F cs ≡ record { statuses = (history f fresh_lent cs).statuses; bytes = (history f fresh_lent cs).bytes; left = lent_run (history f fresh_lent cs).left }
  streams-lent f p cs = history-held f (reply_of F) lent_run p cs fresh_lent

  pub streams : (cs : List (Call A)) → Streaming F cs
  streams cs =
      let s = (corollaries F E).streaming cs in
      record {
        statuses = ap (λ (h : History Run). h.statuses) (ran-held cs) ∙ s.statuses;
        bytes = ap (λ (h : History Run). h.bytes) (ran-held cs) ∙ s.bytes;
        run = run_told_lem cs;
        phase = ap (λ (r : Run). r.phase) (run_told_lem cs);
        absorbed = ap (λ (r : Run). r.absorbed) (run_told_lem cs);
        squeezed = ap (λ (r : Run). r.squeezed) (run_told_lem cs);
        permutations = ap (λ (r : Run). r.permutations) (run_told_lem cs) ∙ count_defined F E cs;
        output = ap (λ (h : History Run). joined h.bytes) (ran-held cs) ∙ s.output;
      }

  pub counts : (cs : List (Call A)) → Counts F cs
  counts cs = record {
    while_absorbing = λ e. told_due ∙ ap (λ (b : Bool). cond b (open_count F.rate m) (closed_count F.rate m k)) (eq-eqb h 0 (sym told-phase ∙ e)) ∙ open_words F.rate (positive F E) m;
    once_squeezing = λ e. told_due ∙ ap (λ (b : Bool). cond b (open_count F.rate m) (closed_count F.rate m k)) (ne_eqb h 0 (λ z. let o = sym told-phase ∙ e in omega arith)) ∙ closed_words_lem F.rate (positive F E) m k;
  }
    where
      m : ℕ
      m = length (told F cs).left.absorbed

      k : ℕ
      k = (told F cs).left.squeezed

      h : ℕ
      h = phase_number (told F cs).left.phase

      told-phase : (ran F cs).left.phase ≡ h
      told-phase = ap (λ (r : Run). r.phase) (run_told_lem cs)

      told_due : (ran F cs).left.permutations ≡ cond (eqb h 0) (open_count F.rate m) (closed_count F.rate m k)
      told_due = ap (λ (r : Run). r.permutations) (run_told_lem cs) ∙ count_told F E cs

  equal_transcripts : (cs ds : List (Call A)) → (told F cs).left ≡ (told F ds).left → (ran F cs).left ≡ (ran F ds).left
  equal_transcripts cs ds e = run_told_lem cs ∙ ap (λ (t : Transcript A). held (run_of (rules F) (machine F) t)) e ∙ sym (run_told_lem ds)

  -- ---- one call

  refused-output : (r : Run) (out : List ℕ) (n : ℕ) → (answer F r (squeeze (length out))).status ≡ suc n → written F r out ≡ out
  refused-output r out n e =
      written-lent r out ∙ ap (λ (s : ℕ). lent s (perform (rules F) (machine F) (seen r) (squeeze (length out))).bytes out) (sym (status_is r (squeeze (length out))) ∙ e)

  written_done : (r : Run) (out : List ℕ) → (perform (rules F) (machine F) (seen r) (squeeze (length out))).status ≡ 0
      → written F r out ≡ (perform (rules F) (machine F) (seen r) (squeeze (length out))).bytes
  written_done r out e = written-lent r out ∙ ap (λ (s : ℕ). lent s (perform (rules F) (machine F) (seen r) (squeeze (length out))).bytes out) e

  done_output : (r : Run) (out : List ℕ) → (answer F r (squeeze (length out))).status ≡ 0 → written F r out ≡ (reply_of F r (squeeze (length out))).bytes
  unfolding reply_of
  done_output r out e = written_done r out (first_done r (squeeze (length out)) e)

  refused : (r : Run) (c : Call A) (n : ℕ) → (answer F r c).status ≡ suc n → (answer F r c).run ≡ r
  refused r c n e = run_is r c ∙ ap held ((corollaries F E).refusals.refused (seen r) c n (sym (status_is r c) ∙ e)).0

  calls : Calls F
  calls = record {
    refused = refused;
    refused-output = refused-output;
    refused-lent = λ lanes at c m left n e s.
        let r : run_with left m.at ≡ run_with lanes at = ap (λ (x : Answer). x.run) e ∙ refused (run_with lanes at) c n (sym (ap (λ (x : Answer). x.status) e) ∙ s) in
        (ap (λ (q : Run). q.lanes) r, ap progress_of r);
    done_output = done_output;
    absorb_grows = λ r p e. ap (λ (q : Run). q.absorbed) (run_is r (absorb p)) ∙ (corollaries F E).refusals.absorb_grows (seen r) p (first_done r (absorb p) e);
  }

  -- ---- calls in a row

  absorb_both : (r : Run) (a b : List ℕ) → perform (rules F) (machine F) (perform (rules F) (machine F) (seen r) (absorb a)).left (absorb b) ≡ perform (rules F) (machine F) (seen r) (absorb (a ++ b))
      → answer F (answer F r (absorb a)).run (absorb b) ≡ answer F r (absorb (a ++ b))
  absorb_both r a b e = second_is r (absorb a) (absorb b) ∙ ap replied e ∙ sym (answer_replied r (absorb (a ++ b)))

  -- the machine's two squeezes are the joined one: so are the answers, and what is written
  module _ (r : Run) (x y : List ℕ) where
    abbrev middle : runs.Run Counted
    middle = (perform (rules F) (machine F) (seen r) (squeeze (length x))).left

    abbrev both : Reply (runs.Run Counted)
    both = record {
      status = (perform (rules F) (machine F) middle (squeeze (length y))).status;
      bytes = (perform (rules F) (machine F) (seen r) (squeeze (length x))).bytes ++ (perform (rules F) (machine F) middle (squeeze (length y))).bytes;
      left = (perform (rules F) (machine F) middle (squeeze (length y))).left;
    }

    squeeze_both : (perform (rules F) (machine F) (seen r) (squeeze (length x))).status ≡ 0 → (perform (rules F) (machine F) middle (squeeze (length y))).status ≡ 0
        → both ≡ perform (rules F) (machine F) (seen r) (squeeze (length x + length y))
        → (answer F (answer F r (squeeze (length x))).run (squeeze (length y)) ≡ answer F r (squeeze (length (x ++ y))))
        × (written F r x ++ written F (answer F r (squeeze (length x))).run y ≡ written F r (x ++ y))
    squeeze_both e f w =
        let z : both ≡ perform (rules F) (machine F) (seen r) (squeeze (length (x ++ y))) = w ∙ ap (λ (k : ℕ). perform (rules F) (machine F) (seen r) (squeeze k)) (sym (length-append x y)) in
        let g : (perform (rules F) (machine F) (seen r) (squeeze (length (x ++ y)))).status ≡ 0 = sym (ap (λ (o : Reply (runs.Run Counted)). o.status) z) ∙ f in
        let second : written F (answer F r (squeeze (length x))).run y ≡ (perform (rules F) (machine F) middle (squeeze (length y))).bytes =
        ap (λ (q : Run). written F q y) (run_is r (squeeze (length x))) ∙ written_done (held middle) y f in (
          second_is r (squeeze (length x)) (squeeze (length y)) ∙ ap replied z ∙ sym (answer_replied r (squeeze (length (x ++ y)))),
          (λ i. written_done r x e i ++ second i) ∙ ap (λ (o : Reply (runs.Run Counted)). o.bytes) z ∙ sym (written_done r (x ++ y) g),
        )

  joins : Joins F
  unfolding rules
  joins = record {
    absorb-absorb = λ r a b e f. absorb_both r a b (done.absorb-absorb (rules F) (machine F) (laws F (positive F E)) (stays F (positive F E)) (seen r) a b (first_done r (absorb a) e) (second_done r (absorb a) (absorb b) f) refl);
    absorb_parts = λ r a b e. absorb_both r a b (done.absorb_parts (rules F) (machine F) (laws F (positive F E)) (stays F (positive F E)) (seen r) a b (first_done r (absorb (a ++ b)) e) refl refl);
    absorb-nothing = λ r e. run_is r (absorb []) ∙ ap held (done.absorb-nothing (rules F) (machine F) (laws F (positive F E)) (stays F (positive F E)) (seen r) (first_done r (absorb []) e));
    squeeze-squeeze = squeezes;
    squeeze_parts = parts;
    squeeze-nothing = λ r e. run_is r (squeeze 0) ∙ ap held (done.squeeze-nothing (rules F) (machine F) (laws F (positive F E)) (stays F (positive F E)) (seen r) (first_done r (squeeze 0) e));
  }
    where
      squeezes : (r : Run) (x y : List ℕ) → (answer F r (squeeze (length x))).status ≡ 0 → (answer F (answer F r (squeeze (length x))).run (squeeze (length y))).status ≡ 0
          → (answer F (answer F r (squeeze (length x))).run (squeeze (length y)) ≡ answer F r (squeeze (length (x ++ y))))
          × (written F r x ++ written F (answer F r (squeeze (length x))).run y ≡ written F r (x ++ y))
      squeezes r x y e f =
          let e' = first_done r (squeeze (length x)) e in
          let f' = second_done r (squeeze (length x)) (squeeze (length y)) f in
          squeeze_both r x y e' f' (done.squeeze-squeeze (rules F) (machine F) (laws F (positive F E)) (stays F (positive F E)) (seen r) (length x) (length y) e' f')

      parts : (r : Run) (x y : List ℕ) → (answer F r (squeeze (length (x ++ y)))).status ≡ 0
          → (answer F (answer F r (squeeze (length x))).run (squeeze (length y)) ≡ answer F r (squeeze (length (x ++ y))))
          × (written F r x ++ written F (answer F r (squeeze (length x))).run y ≡ written F r (x ++ y))
      parts r x y e =
          let g : (perform (rules F) (machine F) (seen r) (squeeze (length x + length y))).status ≡ 0 = rw (length-append x y) at (first_done r (squeeze (length (x ++ y))) e) in
          let w = done.squeeze_parts (rules F) (machine F) (laws F (positive F E)) (stays F (positive F E)) (seen r) (length x) (length y) g in
          squeeze_both r x y (done.part_done (rules F) (machine F) (seen r) (length x) (length y) g) (ap (λ (o : Reply (runs.Run Counted)). o.status) w ∙ g) w

  -- ---- status 5

  left_is : (cs : List (Call A)) → (ran F cs).left ≡ held (streaming.ran (rules F) (machine F) cs).left
  left_is cs = ap (λ (h : History Run). h.left) (ran-held cs)

  to_machine : (r : Run) → Reached F r → generic.Reached (rules F) (machine F) positions (Callable F) (seen r)
  unfolding machine
  to_machine r g =
      let cs : List (Call A) = g.calls in
      record {
        calls = cs;
        calls_can = g.callable;
        phase_is = sym (ap (λ (q : Run). q.phase) (left_is cs)) ∙ g.phase_is;
        absorbed_is = sym (ap (λ (q : Run). q.absorbed) (left_is cs)) ∙ g.absorbed_is;
        customized_is = refl;
        limit_is = refl;
        squeezed_is = sym (ap (λ (q : Run). q.squeezed) (left_is cs)) ∙ g.squeezed_is;
        positions_are = pair (sym (ap (λ (q : Run). q.position) (left_is cs)) ∙ g.position_is) (sym (ap (λ (q : Run). q.permutations) (left_is cs)) ∙ g.permutations_is);
      }

  to_code : (r : Run) → generic.Reached (rules F) (machine F) positions (Callable F) (seen r) → Reached F r
  to_code r g =
      let cs : List (Call A) = g.calls in
      record {
        calls = cs;
        callable = g.calls_can;
        phase_is = ap (λ (q : Run). q.phase) (left_is cs) ∙ g.phase_is;
        absorbed_is = ap (λ (q : Run). q.absorbed) (left_is cs) ∙ g.absorbed_is;
        squeezed_is = ap (λ (q : Run). q.squeezed) (left_is cs) ∙ g.squeezed_is;
        position_is = ap (λ (q : Run). q.position) (left_is cs) ∙ first_is _ _ _ _ g.positions_are;
        permutations_is = ap (λ (q : Run). q.permutations) (left_is cs) ∙ number_is _ _ _ _ g.positions_are;
      }

  five : Five F
  five = record {
    five_unreached = λ r c e g. (corollaries F E).five.five_unreached (seen r) c (sym (status_is r c) ∙ e) (to_machine r g);
    unreached_five = λ r c h. status_is r c ∙ (corollaries F E).five.unreached_five (seen r) c (λ g. h (to_code r g));
    other_reached = λ r c h. to_code r ((corollaries F E).five.other_reached (seen r) c (λ e. h (status_is r c ∙ e)));
  }

  -- ---- in one go

  go_lent : (m : List ℕ) (a : A) (out : List ℕ) → one_go_output F m a out ≡ lent (one_go_status F (length m) a (length out)) (output F m a (length out)) out
  unfolding output
  go_lent m a out = at_lent F.rate F.rounds F.output_limit m (F.argument a) (F.byte a) out

  one_go : OneGo F
  one_go = record {
    done_output = λ m a out e. go_lent m a out ∙ ap (λ (s : ℕ). lent s (output F m a (length out)) out) e;
    refused-output = λ m a out n e. go_lent m a out ∙ ap (λ (s : ℕ). lent s (output F m a (length out)) out) e;
  }

  -- ---- all of it

  shorter : (m : List ℕ) (a : A) (k n : ℕ) → k ≤ n → output F m a k ≡ take k (output F m a n)
  unfolding rules
  shorter m a k n l =
      let L = laws F (positive F E) in
      let s : Counted = (machine F).finalize (length m) ((machine F).absorb 0 (machine F).fresh m) a in
      let e : n ≡ k + (n - k) = omega arith in
      let w : output F m a n ≡ (machine F).squeeze k s ++ (machine F).squeeze (n - k) ((machine F).after k s) = sym (L.squeeze_output_lem m a n) ∙ ap (λ (j : ℕ). (machine F).squeeze j s) e ∙ L.squeeze-add k (n - k) s in
      let first : take k ((machine F).squeeze k s ++ (machine F).squeeze (n - k) ((machine F).after k s)) ≡ (machine F).squeeze k s =
      ap (λ (j : ℕ). take j ((machine F).squeeze k s ++ (machine F).squeeze (n - k) ((machine F).after k s))) (sym (L.squeeze-length k s)) ∙ take-append_seam _ _ in
      sym (L.squeeze_output_lem m a k) ∙ sym first ∙ ap (take k) (sym w)

  pub claims : Claims F
  claims = record { streaming = streams; counts = counts; streaming-lent = streams-lent; equal_transcripts = equal_transcripts; calls = calls; joins = joins; five = five; one_go = one_go; shorter = shorter }
