-- The two cases of the numbers that a call is given: a rate and a number of rounds, or not.
-- Assumes nothing.
use mathlib.Core.Path.{◌≡◌, refl, sym, ap, ◌∙◌}
use mathlib.Core.List.{List}
use Prim.Native.Nat.{ℕ, zero, suc, ◌≤◌, ◌<◌}
use Rattle.keccak.specs.Permutation.{rounds_status}
use Rattle.sponge.specs.Status.{first_of}
use lib.ListN.{length}
use Rattle.sponge.specs.Transcript.{Call, Call.absorb, Call.customize, Call.finalize, Call.finish, Call.squeeze, Reply, lent}
use Rattle.sponge.specs.Runs as runs
use Rattle.sponge.specs.Runs.{perform}
use Rattle.sponge.specs.Count.{Counted}
use Rattle.sponge.specs.Model.{call_status}
use Rattle.sponge.proofs.Valid.{taken-fits, taken-rounds}
use Rattle.sponge.proofs.Lent.{lent-refused}
use Rattle.sponge.proofs.Joining.{perform_is}
use Rattle.hasher.specs.Function.{Function, rules}
use Rattle.hasher.specs.Model.{machine, seen, held, guarded, perform_of, written_of, answer_of, output_of, Ending, function_of, plain, ending, map_call, answer, written}
use Rattle.hasher.specs.declared.Numbers.{Numbers}
use Rattle.hasher.specs.declared.Run.{Run}
use Rattle.hasher.specs.declared.Answer.{Answer}

pub guard_refused : (n : ℕ) → (n ≡ 0 → ⊥) → (a : Answer) (r : Run) → record { run = r; status = n } ≡ guarded n a r
guard_refused zero h a r = absurd (h refl)
guard_refused (suc n) h a r = refl

-- of two statuses in a row the first that is none of done decides
pub lent_both : (g h : ℕ) (bytes out : List ℕ) → lent g (lent h bytes out) out ≡ lent (first_of g h) bytes out
lent_both zero h bytes out = refl
lent_both (suc g) h bytes out = refl

pub numbers_fit : (rounds rate : ℕ) → call_status rounds rate 0 ≡ 0 → (0 < rate) × (rate ≤ 200) × (rounds_status rounds ≡ 0)
numbers_fit rounds rate e = let f = taken-fits rounds rate 0 e in (f.1, f.2, taken-rounds rounds rate 0 e)

module _ {A : Type 0} (F : Function A) where
  pub answer-refused : (r : Run) (c : Call A) (n : ℕ) → (n ≡ 0 → ⊥) → n ≡ call_status F.rounds F.rate 0 → record { run = r; status = n } ≡ answer_of F r c
  unfolding answer_of
  answer-refused r c n h e = rw (← e) (guard_refused n h (perform_of F r c) r)

  pub output-refused : (r : Run) (out : List ℕ) (n : ℕ) → (n ≡ 0 → ⊥) → n ≡ call_status F.rounds F.rate 0 → out ≡ output_of F r out
  unfolding output_of
  output-refused r out n h e = rw (← e) (lent-refused n h (written_of F r out) out)

  module _ (taken : call_status F.rounds F.rate 0 ≡ 0) where
    pub answer_is : (r : Run) (c : Call A) → perform_of F r c ≡ answer_of F r c
    unfolding answer_of
    answer_is r c = rw taken

    pub output_is : (r : Run) (out : List ℕ) → written_of F r out ≡ output_of F r out
    unfolding output_of
    output_is r out = rw taken

-- ---- numbers m that the code was given as n, and has found to be taken

module _ (m n : Numbers) (same : m ≡ n) (taken : call_status n.rounds n.rate 0 ≡ 0) where
  pub answer-taken : (r : Run) (c : Call Ending) → perform_of (function_of m) r c ≡ answer_of (function_of n) r c
  answer-taken r c = ap (λ (k : Numbers). perform_of (function_of k) r c) same ∙ answer_is (function_of n) taken r c

  pub output-taken : (r : Run) (out : List ℕ) → written_of (function_of m) r out ≡ output_of (function_of n) r out
  output-taken r out = ap (λ (k : Numbers). written_of (function_of k) r out) same ∙ output_is (function_of n) taken r out

-- ---- the code's calls, which see three numbers and an ending, are the function's

module _ {A : Type 0} (F : Function A) where
  same_performed : (r : Run) (c : Call A) → perform (rules (plain F)) (machine (plain F)) (seen r) (map_call (ending F) c) ≡ perform (rules F) (machine F) (seen r) c
  unfolding rules machine
  same_performed r (absorb p) = perform_is (rules (plain F)) (machine (plain F)) (seen r) (absorb p) ∙ sym (perform_is (rules F) (machine F) (seen r) (absorb p))
  same_performed r (customize p) = perform_is (rules (plain F)) (machine (plain F)) (seen r) (customize p) ∙ sym (perform_is (rules F) (machine F) (seen r) (customize p))
  same_performed r (finalize a) = perform_is (rules (plain F)) (machine (plain F)) (seen r) (finalize (ending F a)) ∙ sym (perform_is (rules F) (machine F) (seen r) (finalize a))
  same_performed r finish = perform_is (rules (plain F)) (machine (plain F)) (seen r) finish ∙ sym (perform_is (rules F) (machine F) (seen r) finish)
  same_performed r (squeeze k) = perform_is (rules (plain F)) (machine (plain F)) (seen r) (squeeze k) ∙ sym (perform_is (rules F) (machine F) (seen r) (squeeze k))

  pub answer_same : (r : Run) (c : Call A) → answer F r c ≡ answer_of F r c
  unfolding answer_of perform_of
  answer_same r c = ap (λ (y : Reply (runs.Run Counted)). guarded (call_status F.rounds F.rate 0) (record { run = held y.left; status = y.status }) r) (same_performed r c)

  pub written_same : (r : Run) (out : List ℕ) → written F r out ≡ output_of F r out
  unfolding output_of written_of
  written_same r out = ap (λ (y : Reply (runs.Run Counted)). lent (call_status F.rounds F.rate 0) (lent y.status y.bytes out) out) (same_performed r (squeeze (length out)))
