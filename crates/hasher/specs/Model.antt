-- What each call on a run of a function, and each call in one go, does on every input.
-- Assumes nothing.
use Rattle.std.specs.Prelude.{List, Bool, cond, ◌&&◌, ℕ, zero, suc, length, eqb, leb}
use Rattle.keccak.specs.Permutation.{last_rounds}
use Rattle.sponge.specs.Waiting.{steps, position_after}
use Rattle.sponge.specs.Published.{xor_byte, sponge}
use Rattle.sponge.specs.Model.{fresh, pad_with, squeeze_bytes, after_bytes, call_status}
use Rattle.sponge.specs.Count.{counted, uncounted, Counted, sponge_of, fresh_counted, open_count, closed_count}
use Rattle.sponge.specs.Status.{done, input_too_long, output_too_long, bad_length, first_of}
use Rattle.sponge.specs.Transcript.{Call, Call.absorb, Call.customize, Call.finalize, Call.finish, Call.squeeze, Reply, lent}
use Rattle.sponge.specs.Runs as runs
use Rattle.sponge.specs.Runs.{Machine, perform}
use Rattle.hasher.specs.Function.{message_limit, Function, permutation, rules}
use Rattle.hasher.specs.declared.Numbers.{Numbers}
use Rattle.hasher.specs.declared.Run.{Run}
use Rattle.hasher.specs.declared.Progress.{Progress}
use Rattle.hasher.specs.declared.Moved.{Moved}
use Rattle.hasher.specs.declared.Answer.{Answer}

-- what a run reached from a fresh one has: in phase 0 nothing is squeezed and the position is the one after the bytes absorbed, in phase 1
-- after the bytes squeezed; the permutations are those of the totals; lanes are not looked at
unfoldable pub reachable : ℕ → ℕ → ℕ → ℕ → ℕ → ℕ → ℕ → Bool
reachable rate limit position phase absorbed squeezed permutations =
    leb absorbed message_limit
    && cond (eqb phase 0) (eqb squeezed 0 && (eqb position (position_after rate absorbed) && eqb permutations (open_count rate absorbed)))
    (eqb phase 1 && (leb squeezed limit && (eqb position (position_after rate squeezed) && eqb permutations (closed_count rate absorbed squeezed))))

-- what becomes of a sponge whose permutations are counted, and the test of status 5. There is no customization phase: a call of one is refused, and
-- so does nothing
module _ {A : Type 0} (F : Function A) where
  unfoldable pub machine : Machine Counted A
  machine = record {
    fresh = fresh_counted;
    absorb = λ n s p. steps (counted (permutation F)) (uncounted xor_byte) F.rate s p;
    customize = λ n s p. s;
    finalize = λ n s a. pad_with (counted (permutation F)) F.rate (uncounted xor_byte) s (F.byte a);
    finish = λ n s. s;
    squeeze = λ k s. squeeze_bytes (permutation F) F.rate k (sponge_of s);
    after = after_bytes (counted (permutation F)) F.rate;
    customized = λ s. 0;
    limit = λ s. F.output_limit;
    reachable = λ r. reachable F.rate F.output_limit r.state.position r.phase r.absorbed r.squeezed r.state.value.1;
  }

-- ---- the code's structs

-- a run as the theorem sees it, and back
abbrev pub seen : Run → runs.Run Counted
seen r = record { state = record { value = (r.lanes, r.permutations); position = r.position }; phase = r.phase; absorbed = r.absorbed; squeezed = r.squeezed }

abbrev pub held : runs.Run Counted → Run
held r = record { lanes = r.state.value.0; position = r.state.position; phase = r.phase; absorbed = r.absorbed; squeezed = r.squeezed; permutations = r.state.value.1 }

unfoldable pub fresh_of : Run
fresh_of = record { lanes = fresh.value; position = 0; phase = 0; absorbed = 0; squeezed = 0; permutations = 0 }

-- a call refused before the run is looked at, where n is not 0
abbrev pub guarded : ℕ → Answer → Run → Answer
guarded zero a r = a
guarded (suc n) a r = record { run = r; status = suc n }

module _ {A : Type 0} (F : Function A) where
  unfoldable pub perform_of : Run → Call A → Answer
  perform_of r c = record { run = held (perform (rules F) (machine F) (seen r) c).left; status = (perform (rules F) (machine F) (seen r) c).status }

  -- what the lent output holds after a squeeze, which held `out` before
  unfoldable pub written_of : Run → List ℕ → List ℕ
  written_of r out = lent (perform (rules F) (machine F) (seen r) (squeeze (length out))).status (perform (rules F) (machine F) (seen r) (squeeze (length out))).bytes out

  -- for any numbers: 16 before all others for more than 24 rounds, then 5 for what is no rate
  unfoldable pub answer_of : Run → Call A → Answer
  answer_of r c = guarded (call_status F.rounds F.rate 0) (perform_of r c) r

  unfoldable pub output_of : Run → List ℕ → List ℕ
  output_of r out = lent (call_status F.rounds F.rate 0) (written_of r out) out

-- ---- the functions that the code is given: three numbers, and for the close a byte and its status

pub record Ending : Type 0 where
  pub byte : ℕ
  pub status : ℕ

abbrev pub numbers : ℕ → ℕ → ℕ → Function Ending
numbers rate rounds limit = record { rate = rate; rounds = rounds; byte = λ e. e.byte; argument = λ e. e.status; output_limit = limit }

-- by what the code holds them in
abbrev pub function_of : Numbers → Function Ending
function_of n = numbers n.rate n.rounds n.limit

-- a call with other arguments of the close
abbrev pub map_call : {A B : Type 0} → (A → B) → Call A → Call B
map_call f (absorb p) = absorb p
map_call f (customize p) = customize p
map_call f (finalize a) = finalize (f a)
map_call f finish = finish
map_call f (squeeze k) = squeeze k

module _ {A : Type 0} (F : Function A) where
  abbrev pub plain : Function Ending
  plain = numbers F.rate F.rounds F.output_limit

  abbrev pub ending : A → Ending
  ending a = record { byte = F.byte a; status = F.argument a }

  -- a call's answer on a run of F, and what the lent output of a squeeze holds
  abbrev pub answer : Run → Call A → Answer
  answer r c = answer_of plain r (map_call ending c)

  abbrev pub written : Run → List ℕ → List ℕ
  written = output_of plain

  -- the answer with the bytes given: what a list of calls on the code's runs is made of
  unfoldable pub reply_of : Run → Call A → Reply Run
  reply_of r c = record { status = (answer r c).status; bytes = (perform (rules F) (machine F) (seen r) c).bytes; left = (answer r c).run }

-- ---- a run as lanes that are lent, and what it holds beside them

abbrev pub progress_of : Run → Progress
progress_of r = record { position = r.position; phase = r.phase; absorbed = r.absorbed; squeezed = r.squeezed; permutations = r.permutations }

abbrev pub run_with : List ℕ → Progress → Run
run_with lanes at = record { lanes = lanes; position = at.position; phase = at.phase; absorbed = at.absorbed; squeezed = at.squeezed; permutations = at.permutations }

-- the answer of a call on lent lanes: what it answers, and the lanes that it leaves
abbrev pub answered : Moved → List ℕ → Answer
answered m lanes = record { run = run_with lanes m.at; status = m.status }

-- ---- in one go

-- the status of a message of m bytes, an argument whose status is s, and n bytes asked
unfoldable pub hash_status : ℕ → ℕ → ℕ → ℕ → ℕ
hash_status limit m s n =
    first_of s (first_of (cond (leb m message_limit) done input_too_long) (first_of (cond (eqb n 0) bad_length done) (cond (leb n limit) done output_too_long)))

-- what the lent output holds after the call
unfoldable pub hash_output : ℕ → ℕ → ℕ → List ℕ → ℕ → ℕ → List ℕ → List ℕ
hash_output rate rounds limit m s d out = lent (hash_status limit (length m) s (length out)) (sponge (last_rounds rounds) rate m d (length out)) out

-- for any numbers: 16, then 5, before all others
unfoldable pub hash_at_status : ℕ → ℕ → ℕ → ℕ → ℕ → ℕ → ℕ
hash_at_status rate rounds limit m s n = first_of (call_status rounds rate 0) (hash_status limit m s n)

unfoldable pub hash_at_output : ℕ → ℕ → ℕ → List ℕ → ℕ → ℕ → List ℕ → List ℕ
hash_at_output rate rounds limit m s d out = lent (call_status rounds rate 0) (hash_output rate rounds limit m s d out) out

-- of the function F, closed with a
module _ {A : Type 0} (F : Function A) where
  abbrev pub one_go_status : ℕ → A → ℕ → ℕ
  one_go_status m a n = hash_at_status F.rate F.rounds F.output_limit m (F.argument a) n

  abbrev pub one_go_output : List ℕ → A → List ℕ → List ℕ
  one_go_output m a out = hash_at_output F.rate F.rounds F.output_limit m (F.argument a) (F.byte a) out
