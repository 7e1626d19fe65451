-- The code's calls are the machine's, on the code's own runs, and what is claimed of one call.
-- Assumes nothing.
use mathlib.Core.Path.{◌≡◌, sym, ap, ◌∙◌}
use mathlib.Core.List.{List, []}
use mathlib.Core.Bool.{cond}
use Prim.Native.Nat.{ℕ, ◌*◌}
use lib.ListN.{length}
use lib.Dec.{eqb}
use Rattle.keccak.specs.Permutation.{last_rounds}
use Rattle.sponge.specs.Published.{xor_byte}
use Rattle.sponge.specs.Waiting.{steps}
use Rattle.sponge.specs.Model.{pad_with}
use Rattle.sponge.specs.Count.{counted, uncounted}
use Rattle.sponge.specs.Status.{done, wrong_phase, unreachable}
use Rattle.sponge.specs.Transcript.{Call, Call.absorb, Call.customize, Call.finalize, Call.finish, Call.squeeze, Reply, reply, lent}
use Rattle.sponge.specs.Runs as runs
use Rattle.sponge.specs.Runs.{fresh_run, perform}
use Rattle.sponge.specs.Streaming as streaming
use Rattle.sponge.specs.Streaming.{History}
use Rattle.sponge.proofs.Corollaries.{history-held}
use Rattle.sponge.proofs.Joining as joining
use Rattle.sponge.proofs.Joining.{perform_is}
use Rattle.hasher.specs.Model.{map_call}
use Rattle.sp800_185.specs.Published.{right_encode, cshake_byte}
use Rattle.sp800_185.specs.Start.{start_run}
use Rattle.sp800_185.specs.Function.{Function, length_status, rules}
use Rattle.sp800_185.specs.Model.{State, reachable, machine, seen, held, performed, answer_of, written_of, plain, answer, written, reply_of}
use Rattle.sp800_185.specs.Claims.{ran, Calls}
use Rattle.sp800_185.specs.declared.Keyed.{Keyed}
use Rattle.sp800_185.specs.declared.Answer.{Answer}
use Rattle.sp800_185.proofs.Lengths.{Meets}

-- a reply of the machine on the code's structs
abbrev pub replied : Reply (runs.Run State) → Answer
replied y = record { keyed = held y.left; status = y.status }

module _ {A : Type 0} (F : Function A) (E : Meets F) where
  -- ---- the code's calls, which see numbers and a length, are the function's

  module _ (r : runs.Run State) where
    -- a close that says m
    closing : ℕ → Reply (runs.Run State)
    closing m =
        reply
        (cond (reachable F F.least F.most r.state.sponge.position r.state.output_length r.phase r.absorbed r.squeezed r.state.sponge.value.1) (cond (eqb r.phase 0) (cond F.fixes (length_status m) done) wrong_phase) unreachable)
        [] (record {
          state = record {
            sponge = pad_with (counted (last_rounds 24)) F.rate (uncounted xor_byte) (steps (counted (last_rounds 24)) (uncounted xor_byte) F.rate r.state.sponge (cond F.says (right_encode (8 * m)) [])) cshake_byte;
            output_length = m;
          };
          phase = 1;
          absorbed = r.absorbed;
          squeezed = r.squeezed;
        })
        r

    same_performed : (c : Call A) → perform (rules (plain F) []) (machine (plain F) [] F.least F.most) r (map_call F.said c) ≡ perform (rules F []) (machine F [] F.least F.most) r c
    unfolding rules machine reachable closing
    same_performed (absorb x) = perform_is (rules (plain F) []) (machine (plain F) [] F.least F.most) r (absorb x) ∙ sym (perform_is (rules F []) (machine F [] F.least F.most) r (absorb x))
    same_performed (customize x) = perform_is (rules (plain F) []) (machine (plain F) [] F.least F.most) r (customize x) ∙ sym (perform_is (rules F []) (machine F [] F.least F.most) r (customize x))
    same_performed (finalize a) = perform_is (rules (plain F) []) (machine (plain F) [] F.least F.most) r (finalize (F.said a)) ∙ ap closing (E.said_fixed a) ∙ sym (perform_is (rules F []) (machine F [] F.least F.most) r (finalize a))
    same_performed finish = perform_is (rules (plain F) []) (machine (plain F) [] F.least F.most) r finish ∙ sym (perform_is (rules F []) (machine F [] F.least F.most) r finish)
    same_performed (squeeze k) = perform_is (rules (plain F) []) (machine (plain F) [] F.least F.most) r (squeeze k) ∙ sym (perform_is (rules F []) (machine F [] F.least F.most) r (squeeze k))

    -- and a call sees of its start nothing but what the run holds
    pub any_start : (p q : List ℕ) (c : Call A) → perform (rules F p) (machine F p F.least F.most) r c ≡ perform (rules F q) (machine F q F.least F.most) r c
    unfolding rules machine
    any_start p q (absorb x) = perform_is (rules F p) (machine F p F.least F.most) r (absorb x) ∙ sym (perform_is (rules F q) (machine F q F.least F.most) r (absorb x))
    any_start p q (customize x) = perform_is (rules F p) (machine F p F.least F.most) r (customize x) ∙ sym (perform_is (rules F q) (machine F q F.least F.most) r (customize x))
    any_start p q (finalize a) = perform_is (rules F p) (machine F p F.least F.most) r (finalize a) ∙ sym (perform_is (rules F q) (machine F q F.least F.most) r (finalize a))
    any_start p q finish = perform_is (rules F p) (machine F p F.least F.most) r finish ∙ sym (perform_is (rules F q) (machine F q F.least F.most) r finish)
    any_start p q (squeeze k) = perform_is (rules F p) (machine F p F.least F.most) r (squeeze k) ∙ sym (perform_is (rules F q) (machine F q F.least F.most) r (squeeze k))

  pub answer_replied : (x : Keyed) (c : Call A) → answer F x c ≡ replied (performed F x c)
  unfolding answer_of
  answer_replied x c = ap replied (same_performed (seen x) c)

  pub written-lent : (x : Keyed) (out : List ℕ) → written F x out ≡ lent (performed F x (squeeze (length out))).status (performed F x (squeeze (length out))).bytes out
  unfolding written_of
  written-lent x out = ap (λ (y : Reply (runs.Run State)). lent y.status y.bytes out) (same_performed (seen x) (squeeze (length out)))

  pub status_is : (x : Keyed) (c : Call A) → (answer F x c).status ≡ (performed F x c).status
  status_is x c = ap (λ (a : Answer). a.status) (answer_replied x c)

  pub keyed_is : (x : Keyed) (c : Call A) → (answer F x c).keyed ≡ held (performed F x c).left
  keyed_is x c = ap (λ (a : Answer). a.keyed) (answer_replied x c)

  first_done : (x : Keyed) (c : Call A) → (answer F x c).status ≡ 0 → (performed F x c).status ≡ 0
  first_done x c e = sym (status_is x c) ∙ e

  -- ---- lists of calls after a start whose prefix is p

  pub ran-held : (p : List ℕ) (cs : List (Call A))
      → ran F p cs ≡ record {
        statuses = (streaming.ran (rules F p) (machine F p F.least F.most) cs).statuses;
        bytes = (streaming.ran (rules F p) (machine F p F.least F.most) cs).bytes;
        left = held (streaming.ran (rules F p) (machine F p F.least F.most) cs).left;
      }
  unfolding start_run reply_of machine
  ran-held p cs =
      history-held (perform (rules F p) (machine F p F.least F.most)) (reply_of F) held
      (λ r c. ap (λ (a : Answer). record { status = a.status; bytes = (performed F (held r) c).bytes; left = a.keyed }) (answer_replied (held r) c)
      ∙ ap (λ (y : Reply (runs.Run State)). record { status = y.status; bytes = y.bytes; left = held y.left }) (any_start r [] p c))
      cs (fresh_run (rules F p) (machine F p F.least F.most))

  pub left_is : (p : List ℕ) (cs : List (Call A)) → (ran F p cs).left ≡ held (streaming.ran (rules F p) (machine F p F.least F.most) cs).left
  left_is p cs = ap (λ (h : History Keyed). h.left) (ran-held p cs)

  -- ---- one call

  written_done : (x : Keyed) (out : List ℕ) → (performed F x (squeeze (length out))).status ≡ 0 → written F x out ≡ (performed F x (squeeze (length out))).bytes
  written_done x out e = written-lent x out ∙ ap (λ (s : ℕ). lent s (performed F x (squeeze (length out))).bytes out) e

  done_output : (x : Keyed) (out : List ℕ) → (answer F x (squeeze (length out))).status ≡ 0 → written F x out ≡ (reply_of F x (squeeze (length out))).bytes
  unfolding reply_of
  done_output x out e = written_done x out (first_done x (squeeze (length out)) e)

  pub calls : Calls F
  calls = record {
    refused = λ x c n e. keyed_is x c ∙ ap held (joining.refused (rules F []) (machine F [] F.least F.most) (seen x) c n (sym (status_is x c) ∙ e)).0;
    refused-output = λ x out n e. written-lent x out ∙ ap (λ (s : ℕ). lent s (performed F x (squeeze (length out))).bytes out) (sym (status_is x (squeeze (length out))) ∙ e);
    done_output = done_output;
    absorb_grows = λ x b e. ap (λ (q : Keyed). q.run.absorbed) (keyed_is x (absorb b)) ∙ joining.absorb_grows (rules F []) (machine F [] F.least F.most) (seen x) b (first_done x (absorb b) e);
  }
