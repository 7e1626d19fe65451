-- What is claimed of runs as the code holds them, for every function that meets `Meets`: of `answer` and `written`, which the contracts cite, and of
-- lists of calls from `fresh_of`. proofs/Claims.antt fills `Claims`; each function above has it at its own numbers.
-- Assumes nothing.
use Rattle.std.specs.Prelude.{◌≡◌, List, [], ◌++◌, ℕ, suc, ◌+◌, ◌^◌, ◌≤◌, ◌<◌, length, take}
use Rattle.sponge.specs.Status.{unreachable}
use Rattle.sponge.specs.Callable.{Slice, All}
use Rattle.sponge.specs.Transcript.{Call, Call.absorb, Call.customize, Call.finalize, Call.finish, Call.squeeze, phase_number, Transcript, fresh_transcript, transcribe, Reply}
use Rattle.sponge.specs.Transcript as transcript
use Rattle.sponge.specs.Cut.{ceil}
use Rattle.sponge.specs.Model.{call_status}
use Rattle.sponge.specs.Count.{read_count}
use Rattle.sponge.specs.Runs.{run_of}
use Rattle.sponge.specs.Streaming.{History, history, joined}
use Rattle.hasher.specs.Function.{Function, output, rules, permutations_of}
use Rattle.hasher.specs.Model.{machine, held, fresh_of, answer, written, reply_of, progress_of, run_with, answered, one_go_status, one_go_output}
use Rattle.hasher.specs.declared.Run.{Run}
use Rattle.hasher.specs.declared.Progress.{Progress}
use Rattle.hasher.specs.declared.Moved.{Moved}

-- a run as a caller of the calls on lent lanes has it: the lanes, and what is held beside them
pub record Lent : Type 0 where
  pub lanes : List ℕ
  pub at : Progress

abbrev pub lent_run : Lent → Run
lent_run s = run_with s.lanes s.at

abbrev pub fresh_lent : Lent
fresh_lent = record { lanes = fresh_of.lanes; at = progress_of fresh_of }

module _ {A : Type 0} (F : Function A) where
  -- what a function owes: a rate and a number of rounds that are taken, an argument of the close that is and whose byte is one, that no argument
  -- answers 5, and a read limit below 2^63, so that one read can ask for all of it
  pub record Meets : Type 0 where
    pub taken : call_status F.rounds F.rate 0 ≡ 0
    pub some : A
    pub some_taken : F.argument some ≡ 0
    pub some_byte : F.byte some < 256
    pub no_five : (a : A) → F.argument a ≡ unreachable → ⊥
    pub limit-fits : F.output_limit < 2 ^ 63

  -- ---- lists of calls from a fresh run

  -- by the transcript, document 01's book, and by the code's runs
  abbrev pub told : List (Call A) → History (Transcript A)
  told cs = history (transcribe (rules F)) fresh_transcript cs

  abbrev pub ran : List (Call A) → History Run
  ran cs = history (reply_of F) fresh_of cs

  -- the list theorem: each status and the bytes of each call, refused ones too, are the transcript's; the run left is the one that the transcript
  -- tells of, with its phase and totals, and its permutations are the definition's; the bytes joined are the first bytes of the published output
  pub record Streaming (cs : List (Call A)) : Type 0 where
    pub statuses : (ran cs).statuses ≡ (told cs).statuses
    pub bytes : (ran cs).bytes ≡ (told cs).bytes
    pub run : (ran cs).left ≡ held (run_of (rules F) (machine F) (told cs).left)
    pub phase : (ran cs).left.phase ≡ phase_number (told cs).left.phase
    pub absorbed : (ran cs).left.absorbed ≡ length (told cs).left.absorbed
    pub squeezed : (ran cs).left.squeezed ≡ (told cs).left.squeezed
    pub permutations : (ran cs).left.permutations ≡ permutations_of F (told cs).left
    pub output : joined (ran cs).bytes ≡ transcript.output_of (rules F) (told cs).left (told cs).left.squeezed

  -- the permutations of the run that a list leaves, in the words of request Q-10: of m bytes absorbed ceil(m / rate) - 1, or 0 when m is 0, since a full
  -- block waits for its next byte; once closed ceil((m + 1) / rate), and of n bytes squeezed ceil(n / rate) - 1 more, or 0 when n is 0
  pub record Counts (cs : List (Call A)) : Type 0 where
    pub while_absorbing : (ran cs).left.phase ≡ 0 → (ran cs).left.permutations ≡ read_count F.rate (length (told cs).left.absorbed)
    pub once_squeezing : (ran cs).left.phase ≡ 1
        → (ran cs).left.permutations ≡ ceil F.rate (length (told cs).left.absorbed + 1) + read_count F.rate (told cs).left.squeezed

  -- what the contracts on lent lanes promise of f, which does a call so: status, lanes and what is held beside them are those of the answer on the run of
  -- both, and the bytes are those that are given
  abbrev pub Promised : (Lent → Call A → Reply Lent) → Type 0
  Promised f = (s : Lent) (c : Call A) → reply_of F (lent_run s) c ≡ record { status = (f s c).status; bytes = (f s c).bytes; left = lent_run (f s c).left }

  -- ---- one call, on any run

  pub record Calls : Type 0 where
    -- a refused call hands the run back, and leaves the lent output as it was
    pub refused : (r : Run) (c : Call A) (n : ℕ) → (answer F r c).status ≡ suc n → (answer F r c).run ≡ r
    pub refused-output : (r : Run) (out : List ℕ) (n : ℕ) → (answer F r (squeeze (length out))).status ≡ suc n → written F r out ≡ out
    -- a refused call on lent lanes, which answers m and leaves the lanes `left`, leaves them and what was given beside them as they were
    pub refused-lent : (lanes : List ℕ) (at : Progress) (c : Call A) (m : Moved) (left : List ℕ) (n : ℕ) → answered m left ≡ answer F (run_with lanes at) c → m.status ≡ suc n
        → (left ≡ lanes) × (m.at ≡ at)
    -- a done squeeze leaves in the lent output the bytes that the list theorem speaks of
    pub done_output : (r : Run) (out : List ℕ) → (answer F r (squeeze (length out))).status ≡ 0 → written F r out ≡ (reply_of F r (squeeze (length out))).bytes
    -- a done absorb took every byte of its piece
    pub absorb_grows : (r : Run) (p : List ℕ) → (answer F r (absorb p)).status ≡ 0 → (answer F r (absorb p)).run.absorbed ≡ r.absorbed + length p

  -- ---- calls in a row, on any run, where all are answered done

  pub record Joins : Type 0 where
    -- a and then b are a joined to b; and what is taken joined is taken in two
    pub absorb-absorb : (r : Run) (a b : List ℕ) → (answer F r (absorb a)).status ≡ 0 → (answer F (answer F r (absorb a)).run (absorb b)).status ≡ 0
        → answer F (answer F r (absorb a)).run (absorb b) ≡ answer F r (absorb (a ++ b))
    pub absorb_parts : (r : Run) (a b : List ℕ) → (answer F r (absorb (a ++ b))).status ≡ 0
        → answer F (answer F r (absorb a)).run (absorb b) ≡ answer F r (absorb (a ++ b))
    pub absorb-nothing : (r : Run) → (answer F r (absorb [])).status ≡ 0 → (answer F r (absorb [])).run ≡ r
    -- x and then y, lent outputs, are filled as both in one are; and what is given at once is given in two
    pub squeeze-squeeze : (r : Run) (x y : List ℕ) → (answer F r (squeeze (length x))).status ≡ 0 → (answer F (answer F r (squeeze (length x))).run (squeeze (length y))).status ≡ 0
        → (answer F (answer F r (squeeze (length x))).run (squeeze (length y)) ≡ answer F r (squeeze (length (x ++ y))))
        × (written F r x ++ written F (answer F r (squeeze (length x))).run y ≡ written F r (x ++ y))
    pub squeeze_parts : (r : Run) (x y : List ℕ) → (answer F r (squeeze (length (x ++ y)))).status ≡ 0
        → (answer F (answer F r (squeeze (length x))).run (squeeze (length y)) ≡ answer F r (squeeze (length (x ++ y))))
        × (written F r x ++ written F (answer F r (squeeze (length x))).run y ≡ written F r (x ++ y))
    pub squeeze-nothing : (r : Run) → (answer F r (squeeze 0)).status ≡ 0 → (answer F r (squeeze 0)).run ≡ r

  -- ---- status 5

  -- a call that a caller can make: there is no customization phase, so no call of one
  abbrev pub Callable : Call A → Type 0
  Callable (absorb p) = Slice p
  Callable (customize p) = ⊥
  Callable (finalize a) = F.byte a < 256
  Callable finish = ⊥
  Callable (squeeze k) = k < 2 ^ 63

  -- a list of such calls leaves r's phase, totals, position and permutations
  pub record Reached (r : Run) : Type 0 where
    pub calls : List (Call A)
    pub callable : All Callable calls
    pub phase_is : (ran calls).left.phase ≡ r.phase
    pub absorbed_is : (ran calls).left.absorbed ≡ r.absorbed
    pub squeezed_is : (ran calls).left.squeezed ≡ r.squeezed
    pub position_is : (ran calls).left.position ≡ r.position
    pub permutations_is : (ran calls).left.permutations ≡ r.permutations

  -- 5 exactly where there is none; and where it is another status, here is one
  pub record Five : Type 0 where
    pub five_unreached : (r : Run) (c : Call A) → (answer F r c).status ≡ unreachable → Reached r → ⊥
    pub unreached_five : (r : Run) (c : Call A) → (Reached r → ⊥) → (answer F r c).status ≡ unreachable
    pub other_reached : (r : Run) (c : Call A) → ((answer F r c).status ≡ unreachable → ⊥) → Reached r

  -- ---- in one go

  -- a done call leaves the published output in the lent slice, a refused one what was there
  pub record OneGo : Type 0 where
    pub done_output : (m : List ℕ) (a : A) (out : List ℕ) → one_go_status F (length m) a (length out) ≡ 0 → one_go_output F m a out ≡ output F m a (length out)
    pub refused-output : (m : List ℕ) (a : A) (out : List ℕ) (n : ℕ) → one_go_status F (length m) a (length out) ≡ suc n → one_go_output F m a out ≡ out

  -- ---- all of it

  pub record Claims : Type 0 where
    pub streaming : (cs : List (Call A)) → Streaming cs
    pub counts : (cs : List (Call A)) → Counts cs
    -- on lent lanes a list of calls has the statuses, the bytes and the run of `ran`, of which `streaming` speaks
    pub streaming-lent : (f : Lent → Call A → Reply Lent) → Promised f → (cs : List (Call A))
        → ran cs ≡ record { statuses = (history f fresh_lent cs).statuses; bytes = (history f fresh_lent cs).bytes; left = lent_run (history f fresh_lent cs).left }
    -- two lists that leave equal transcripts leave the same run
    pub equal_transcripts : (cs ds : List (Call A)) → (told cs).left ≡ (told ds).left → (ran cs).left ≡ (ran ds).left
    pub calls : Calls
    pub joins : Joins
    pub five : Five
    pub one_go : OneGo
    -- a shorter output is the first bytes of a longer one
    pub shorter : (m : List ℕ) (a : A) (k n : ℕ) → k ≤ n → output F m a k ≡ take k (output F m a n)
