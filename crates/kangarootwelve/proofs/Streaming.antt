-- Demand 3 for KT, over every list of calls from a fresh run, and what follows from it. One proof over the rate and the chaining
-- length; the two strengths differ in two numbers.
-- Assumes nothing.
use mathlib.Core.Path.{◌≡◌, refl, sym, ap, ◌∙◌}
use mathlib.Core.List.{List}
use mathlib.Core.Bool.{Bool, true, false, cond}
use Prim.Native.Nat.{ℕ, zero, suc, ◌+◌, ◌<◌, ◌≤◌}
use native.Mathlib.Nat.{zero-add}
use native.Mathlib.Omega.{arith}
use lib.Dec.{leb}
use lib.ListN.{length, replicate, length-replicate}
use Rattle.sponge.specs.Status.{unreachable}
use Rattle.sponge.specs.Transcript.{Call, Phase, Phase.absorbing, Phase.customizing, Phase.squeezing, phase_number, Transcript, fresh_transcript, transcribe}
use Rattle.sponge.specs.Runs.{Run, fresh_run, perform, state_of, run_of}
use Rattle.sponge.specs.Streaming.{History, history, joined, output_so, Streams, Streaming, told, ran}
use Rattle.sponge.specs.Lending.{CallWith, answer_with}
use Rattle.sponge.specs.Callable.{Bytes, Slice}
use Rattle.sponge.proofs.Streaming.{Fits}
use Rattle.sponge.proofs.Lending.{held_with, streams_with}
use Rattle.sponge.proofs.Corollaries as generic
use Rattle.sponge.proofs.Corollaries.{Corollaries, history-held}
use Rattle.sponge.proofs.Reachable.{Statuses, Fixed}
use Rattle.turboshake.specs.Transcript.{output_limit}
use Rattle.kangarootwelve.specs.Transcript.{customization_limit, customization_status, customized_of, rules, Callable}
use Rattle.kangarootwelve.specs.Count.{count_due}
use Rattle.kangarootwelve.specs.Model.{Nodes, machine, held, fresh_of, answer_of, reply_of}
use Rattle.kangarootwelve.specs.declared.Run as code
use Rattle.kangarootwelve.proofs.Laws.{positions, due, customization-taken, shape, count_due_lem, shaped, laws, stays}

-- no C answers 5
no_five : (rate chaining : ℕ) (c : List ℕ) → (rules rate chaining).argument c ≡ unreachable → ⊥
unfolding rules customization_status
no_five rate chaining c e = by (leb (length c) customization_limit) e
  where
    by : (t : Bool) → cond t 0 4 ≡ unreachable → ⊥
    by true e = omega arith
    by false e = omega arith

-- zero bytes are bytes
zeros : (n : ℕ) → Bytes (replicate n 0)
zeros zero = tt
zeros (suc n) = (omega arith, zeros n)

-- as many as C may have are a slice
zeros_slice : (n : ℕ) → n ≤ customization_limit → Slice (replicate n 0)
zeros_slice n l = (zeros n, rw (length-replicate {A = ℕ} n 0) (omega arith))

-- a C of any length within the limit
pub statuses : (rate chaining : ℕ) → Statuses (rules rate chaining) (machine rate chaining) (Fixed output_limit) Callable
unfolding rules machine
statuses rate chaining = record {
  nothing-taken = refl;
  byte-taken = refl;
  piece_other = λ n e. omega arith;
  some = λ m l. replicate m 0;
  some_taken = λ m l c e. rw (length-replicate {A = ℕ} m 0) (customization-taken m c);
  some_counted = λ n s m l c e. length-replicate m 0;
  some_limit = λ m l c e. sym e;
  argument_other = no_five rate chaining;
  can_absorb = ((omega arith, tt), omega arith);
  can_customize = λ m l. zeros_slice m (rw (length-replicate {A = ℕ} m 0) at l);
  can_finalize = λ m l c e. zeros_slice m c;
  can_squeeze = λ n l e h. omega arith;
}

-- the run that a transcript tells of has the transcript's customization bytes
pub told-customized : (rate chaining : ℕ) (t : Transcript (List ℕ)) → (run_of (rules rate chaining) (machine rate chaining) t).state.customized ≡ customized_of t.phase
unfolding machine
told-customized rate chaining t = by t.absorbed t.phase t.squeezed
  where
    by : (f : List ℕ) (h : Phase (List ℕ)) (n : ℕ) → (state_of (rules rate chaining) (machine rate chaining) f h n).customized ≡ customized_of h
    by f absorbing n = refl
    by f (customizing c) n = zero-add (length c)
    by f (squeezing c) n = refl

module _ (rate chaining : ℕ) (pos : 0 < rate) where
  -- the list theorem at the published KT, calls in a row, refusals, and status 5 in both directions
  pub corollaries : Corollaries (rules rate chaining) (machine rate chaining) positions Callable
  corollaries =
      generic.corollaries (rules rate chaining) (machine rate chaining) (laws rate chaining pos) (stays rate chaining pos) positions (due rate chaining) (Fixed output_limit)
      (shape rate chaining) (shaped rate chaining) Callable (statuses rate chaining)

  pub streaming : (cs : List (Call (List ℕ))) → Streaming (rules rate chaining) (machine rate chaining) cs
  streaming = corollaries.streaming

  -- the third total after every list of calls is the length of the book's C
  pub customized-told : (cs : List (Call (List ℕ)))
      → (ran (rules rate chaining) (machine rate chaining) cs).left.state.customized ≡ customized_of (told (rules rate chaining) (machine rate chaining) cs).left.phase
  customized-told cs = ap (λ (r : Run Nodes). r.state.customized) (streaming cs).run ∙ told-customized rate chaining (told (rules rate chaining) (machine rate chaining) cs).left

  -- the permutations of the run that a transcript tells of, by its totals
  pub count_told : (t : Transcript (List ℕ)) → Fits (rules rate chaining) t
      → (run_of (rules rate chaining) (machine rate chaining) t).state.permutations
      ≡ count_due rate chaining (phase_number t.phase) (length t.absorbed + customized_of t.phase) (customized_of t.phase) t.squeezed
  unfolding machine
  count_told t h =
      let r : Run Nodes = run_of (rules rate chaining) (machine rate chaining) t in
      count_due_lem rate chaining r (shape rate chaining r ((laws rate chaining pos).run-reachable t h)).positions_due
      ∙ ap (λ (c : ℕ). count_due rate chaining (phase_number t.phase) (length t.absorbed + c) c t.squeezed) (told-customized rate chaining t)

  -- ---- the list theorem on the code's own runs: `reply_of`, which the contracts cite, from `fresh_of`, over calls that lend and calls that do not

  pub history_code : (cs : List (CallWith (List ℕ)))
      → let h : History (Run Nodes) = history (answer_with (perform (rules rate chaining) (machine rate chaining))) (fresh_run (rules rate chaining) (machine rate chaining)) cs in
      history (answer_with (reply_of rate chaining)) (fresh_of rate chaining) cs ≡ record { statuses = h.statuses; bytes = h.bytes; left = held h.left }
  unfolding fresh_of reply_of answer_of
  history_code cs =
      history-held (answer_with (perform (rules rate chaining) (machine rate chaining))) (answer_with (reply_of rate chaining)) held
      (held_with (perform (rules rate chaining) (machine rate chaining)) (reply_of rate chaining) held (λ r c. refl)) cs (fresh_run (rules rate chaining) (machine rate chaining))

  pub streams_code : (cs : List (CallWith (List ℕ)))
      → Streams (answer_with (reply_of rate chaining)) (answer_with (transcribe (rules rate chaining))) (λ t. held (run_of (rules rate chaining) (machine rate chaining) t)) (output_so (rules rate chaining))
      (fresh_of rate chaining) fresh_transcript cs
  streams_code cs =
      let s : Streams (answer_with (perform (rules rate chaining) (machine rate chaining))) (answer_with (transcribe (rules rate chaining))) (run_of (rules rate chaining) (machine rate chaining))
      (output_so (rules rate chaining)) (fresh_run (rules rate chaining) (machine rate chaining)) fresh_transcript cs = streams_with (rules rate chaining) (machine rate chaining) (laws rate chaining pos) cs in
      let e = history_code cs in
      record {
        statuses = ap (λ (h : History code.Run). h.statuses) e ∙ s.statuses;
        bytes = ap (λ (h : History code.Run). h.bytes) e ∙ s.bytes;
        run = ap (λ (h : History code.Run). h.left) e ∙ ap held s.run;
        output = ap (λ (h : History code.Run). joined h.bytes) e ∙ s.output;
      }
