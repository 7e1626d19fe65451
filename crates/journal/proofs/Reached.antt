-- Status 5 of a day exactly when no list of calls from a fresh day, whole events among them, reaches this phase, these totals and these
-- positions: both directions. Every total is reached: an empty event adds one byte.
-- Assumes nothing.
use mathlib.Core.Path.{◌≡◌, refl, sym, ap, ◌∙◌, subst}
use mathlib.Core.List.{List, []}
use mathlib.Core.Bool.{Bool, true, false, cond}
use Prim.Native.Nat.{ℕ, zero, suc, zero-le}
use native.Mathlib.Omega.{arith}
use lib.ListN.{length, replicate}
use lib.Dec.{T, leb}
use Rattle.sponge.specs.Status.{unreachable}
use Rattle.sponge.specs.Transcript.{Call, Call.absorb, Call.customize, Call.finalize, Call.finish, Call.squeeze, Transcript}
use Rattle.sponge.specs.Runs as runs
use Rattle.sponge.specs.Runs.{run_of}
use Rattle.sponge.proofs.Reachable as generic
use Rattle.sponge.proofs.Reachable.{Told, Fixed}
use Rattle.turboshake.specs.Transcript.{output_limit}
use Rattle.kangarootwelve.specs.Transcript as kt
use Rattle.kangarootwelve.specs.Transcript.{Callable}
use Rattle.kangarootwelve.specs.Model.{Nodes, machine, seen}
use Rattle.kangarootwelve.proofs.Answers.{customized_is, limit_is}
use Rattle.kangarootwelve.proofs.Encoding.{encode_zero}
use Rattle.kangarootwelve.proofs.Laws.{positions, due, shape, shaped, first_is, second_is, third_is}
use Rattle.kangarootwelve.proofs.Streaming as kt-streaming
use Rattle.journal.specs.Published.{framed, message}
use Rattle.journal.specs.Transcript.{event_limit, event_status, framed_call, rules_at}
use Rattle.journal.specs.Model.{day_of, performed, answer_of}
use Rattle.journal.specs.Streaming.{ran}
use Rattle.journal.specs.declared.Journal.{Journal}
use Rattle.journal.proofs.Streaming.{laws, day_told, streaming, told-fits}
use Rattle.journal.proofs.Appended.{EachFits, appends, told_appends}

-- a list of calls from a fresh day that leaves j's phase, totals, positions and permutations
pub record Reached (j : Journal) : Type 0 where
  pub calls : List (Call (List ℕ))
  pub phase_is : (ran calls).left.run.phase ≡ j.run.phase
  pub absorbed_is : (ran calls).left.run.absorbed ≡ j.run.absorbed
  pub customized_is : (ran calls).left.run.customized ≡ j.run.customized
  pub squeezed_is : (ran calls).left.run.squeezed ≡ j.run.squeezed
  pub node_is : (ran calls).left.run.node.position ≡ j.run.node.position
  pub leaf_is : (ran calls).left.run.leaf.position ≡ j.run.leaf.position
  pub permutations_is : (ran calls).left.run.permutations ≡ j.run.permutations

-- ---- a day that the test passes is reached

-- n empty events: n bytes
empties_fit : (n : ℕ) → EachFits (replicate n [])
empties_fit zero = tt
empties_fit (suc n) = (zero-le, empties_fit n)

empties_length : (n : ℕ) → length (message (replicate n [])) ≡ n
unfolding framed
empties_length zero = refl
empties_length (suc n) = rw encode_zero (ap suc (empties_length n))

reached_at_lem : (r : runs.Run Nodes) → (machine 168 32).reachable r ≡ true → Reached (day_of r)
reached_at_lem r e =
    let g : Told (kt.rules 168 32) (machine 168 32) laws positions (due 168 32) (Fixed output_limit) (shape 168 32) (shaped 168 32) Callable r =
    generic.reachable-told (kt.rules 168 32) (machine 168 32) laws positions (due 168 32) (Fixed output_limit) (shape 168 32) (shaped 168 32) Callable (kt-streaming.statuses 168 32) r e in
    let es : List (List ℕ) = replicate r.absorbed [] in
    let l : length (message es) ≡ r.absorbed = empties_length r.absorbed in
    let b : Transcript (List ℕ) = record { absorbed = message es; phase = g.phase; squeezed = r.squeezed } in
    let cs : List (Call (List ℕ)) = appends es g.phase r.squeezed in
    let is : (ran cs).left ≡ day_told b =
    (streaming cs).day ∙ ap day_told (told_appends es g.phase r.squeezed (empties_fit r.absorbed) (g.fits (message es) l)) in
    let told : runs.Run Nodes = run_of (kt.rules 168 32) (machine 168 32) b in
    let customized : (machine 168 32).customized told.state ≡ (machine 168 32).customized r.state = g.customized_is (message es) in
    let limit : (machine 168 32).limit told.state ≡ (machine 168 32).limit r.state = limit_is 168 32 told.state ∙ sym (limit_is 168 32 r.state) in
    let at : positions told.state ≡ positions r.state =
    generic.same_positions (kt.rules 168 32) (machine 168 32) laws positions (due 168 32) (Fixed output_limit) (shape 168 32) (shaped 168 32) told r (laws.run-reachable b (g.fits (message es) l)) e g.phase_is l customized limit refl in
    record {
      calls = cs;
      phase_is = ap (λ (j : Journal). j.run.phase) is ∙ g.phase_is;
      absorbed_is = ap (λ (j : Journal). j.run.absorbed) is ∙ l;
      customized_is = ap (λ (j : Journal). j.run.customized) is ∙ sym (customized_is 168 32 told.state) ∙ customized ∙ customized_is 168 32 r.state;
      squeezed_is = ap (λ (j : Journal). j.run.squeezed) is;
      node_is = ap (λ (j : Journal). j.run.node.position) is ∙ first_is at;
      leaf_is = ap (λ (j : Journal). j.run.leaf.position) is ∙ second_is at;
      permutations_is = ap (λ (j : Journal). j.run.permutations) is ∙ third_is at;
    }

pub reachable_reached : (j : Journal) → (machine 168 32).reachable (seen j.run) ≡ true → Reached j
reachable_reached j e = reached_at_lem (seen j.run) e

-- ---- a reached day passes the test

pub reached_reachable : (j : Journal) → Reached j → (machine 168 32).reachable (seen j.run) ≡ true
reached_reachable j g =
    let passes : (machine 168 32).reachable (seen (ran g.calls).left.run) ≡ true = rw (streaming g.calls).day (laws.run-reachable _ (told-fits g.calls)) in
    generic.alike_reachable (kt.rules 168 32) (machine 168 32) laws positions (due 168 32) (Fixed output_limit) (shape 168 32) (shaped 168 32) (seen (ran g.calls).left.run) (seen j.run) passes
    g.phase_is g.absorbed_is (customized_is 168 32 _ ∙ g.customized_is ∙ sym (customized_is 168 32 (seen j.run).state))
    (limit_is 168 32 (seen (ran g.calls).left.run).state ∙ sym (limit_is 168 32 (seen j.run).state)) g.squeezed_is (rw (g.node_is, g.leaf_is, g.permutations_is))

-- ---- 5 is the status of that test and of no other

no_five : (n : ℕ) → event_status n ≡ unreachable → ⊥
unfolding event_status
no_five n e = by (leb n event_limit) e
  where
    by : (t : Bool) → cond t 0 8 ≡ unreachable → ⊥
    by true e = omega arith
    by false e = omega arith

no_piece : (c : Call (List ℕ)) (n : ℕ) → (rules_at c).piece n ≡ unreachable → ⊥
unfolding rules_at
no_piece (absorb e) n z = no_five (length e) z
no_piece (customize p) n z = omega arith
no_piece (finalize name) n z = omega arith
no_piece finish n z = omega arith
no_piece (squeeze k) n z = omega arith

no_argument : (c : Call (List ℕ)) (a : List ℕ) → (rules_at c).argument a ≡ unreachable → ⊥
unfolding rules_at
no_argument c a e = (kt-streaming.statuses 168 32).argument_other a e

pub five_unreached : (j : Journal) (c : Call (List ℕ)) → (answer_of j c).status ≡ unreachable → Reached j → ⊥
unfolding answer_of performed
five_unreached j c e g =
    subst T (sym (reached_reachable j g) ∙ generic.status-five (rules_at c) (machine 168 32) (no_piece c) (no_argument c) (seen j.run) (framed_call c) e) tt

pub unreached_five : (j : Journal) (c : Call (List ℕ)) → (Reached j → ⊥) → (answer_of j c).status ≡ unreachable
unfolding answer_of performed
unreached_five j c g = by ((machine 168 32).reachable (seen j.run)) refl
  where
    by : (t : Bool) → (machine 168 32).reachable (seen j.run) ≡ t → (answer_of j c).status ≡ unreachable
    by true e = absurd (g (reachable_reached j e))
    by false e = generic.five-status (rules_at c) (machine 168 32) (no_piece c) (no_argument c) (seen j.run) (framed_call c) e
