-- What is claimed of runs after a start, as the code holds them: of `answer` and `written`, which the contracts cite, and of lists of calls that begin at
-- a start answered 0. proofs/Starting.antt fills `Claims`; specs/Family.antt has it of the six.
-- Assumes nothing.
use Rattle.std.specs.Prelude.{◌≡◌, List, [], ◌++◌, ℕ, suc, ◌+◌, ◌^◌, ◌≤◌, ◌<◌, length}
use Rattle.sponge.specs.Status.{unreachable}
use Rattle.sponge.specs.Callable.{Slice, All}
use Rattle.sponge.specs.Transcript.{Call, Call.absorb, Call.customize, Call.finalize, Call.finish, Call.squeeze, Phase, Phase.absorbing, Phase.customizing, Phase.squeezing, phase_number, Transcript, fresh_transcript, transcribe}
use Rattle.sponge.specs.Transcript as transcript
use Rattle.sponge.specs.Cut.{ceil}
use Rattle.sponge.specs.Count.{read_count}
use Rattle.sponge.specs.Runs.{run_of}
use Rattle.sponge.specs.Streaming.{History, history, joined}
use Rattle.sp800_185.specs.Function.{Function, ending, rules, permutations_of}
use Rattle.sp800_185.specs.Model.{machine, held, answer, written, reply_of, start_of}
use Rattle.sp800_185.specs.declared.Keyed.{Keyed}

-- ---- calls in a row, on any run, where all are answered done: by the status of a call, the run that it leaves, and what the lent output of a squeeze holds

pub record Joins {A X : Type 0} (status : X → Call A → ℕ) (left : X → Call A → X) (written : X → List ℕ → List ℕ) : Type 0 where
  -- a and then b are a joined to b; and what is taken joined is taken in two
  pub absorb-absorb : (x : X) (a b : List ℕ) → status x (absorb a) ≡ 0 → status (left x (absorb a)) (absorb b) ≡ 0
      → (status x (absorb (a ++ b)) ≡ 0) × (left (left x (absorb a)) (absorb b) ≡ left x (absorb (a ++ b)))
  pub absorb_parts : (x : X) (a b : List ℕ) → status x (absorb (a ++ b)) ≡ 0
      → (status (left x (absorb a)) (absorb b) ≡ 0) × (left (left x (absorb a)) (absorb b) ≡ left x (absorb (a ++ b)))
  pub absorb-nothing : (x : X) → status x (absorb []) ≡ 0 → left x (absorb []) ≡ x
  -- y and then z, lent outputs, are filled as both in one are; and what is given at once is given in two
  pub squeeze-squeeze : (x : X) (y z : List ℕ) → status x (squeeze (length y)) ≡ 0 → status (left x (squeeze (length y))) (squeeze (length z)) ≡ 0
      → (status x (squeeze (length (y ++ z))) ≡ 0) × (left (left x (squeeze (length y))) (squeeze (length z)) ≡ left x (squeeze (length (y ++ z))))
      × (written x y ++ written (left x (squeeze (length y))) z ≡ written x (y ++ z))
  pub squeeze_parts : (x : X) (y z : List ℕ) → status x (squeeze (length (y ++ z))) ≡ 0
      → (status (left x (squeeze (length y))) (squeeze (length z)) ≡ 0) × (left (left x (squeeze (length y))) (squeeze (length z)) ≡ left x (squeeze (length (y ++ z))))
      × (written x y ++ written (left x (squeeze (length y))) z ≡ written x (y ++ z))
  pub squeeze-nothing : (x : X) → status x (squeeze 0) ≡ 0 → left x (squeeze 0) ≡ x

module _ {A : Type 0} (F : Function A) where
  -- ---- lists of calls after a start whose prefix is p

  module _ (p : List ℕ) where
    -- by the transcript, document 01's book, and by the code's runs
    abbrev pub told : List (Call A) → History (Transcript A)
    told cs = history (transcribe (rules F p)) fresh_transcript cs

    abbrev pub ran : List (Call A) → History Keyed
    ran cs = history (reply_of F) (start_of F p) cs

    -- the output length that the transcript holds: none before the close
    abbrev pub length_of : Phase A → ℕ
    length_of absorbing = 0
    length_of (customizing c) = 0
    length_of (squeezing a) = F.said a

    -- the list theorem: each status and the bytes of each call, refused ones too, are the transcript's; the run left is the one that the transcript
    -- tells of, with its phase, totals and output length, and its permutations are the definition's; no more is read than the read limit, and the
    -- bytes joined are the first bytes of the published output
    pub record Streaming (cs : List (Call A)) : Type 0 where
      pub statuses : (ran cs).statuses ≡ (told cs).statuses
      pub bytes : (ran cs).bytes ≡ (told cs).bytes
      pub run : (ran cs).left ≡ held (run_of (rules F p) (machine F p F.least F.most) (told cs).left)
      pub phase : (ran cs).left.run.phase ≡ phase_number (told cs).left.phase
      pub absorbed : (ran cs).left.run.absorbed ≡ length (told cs).left.absorbed
      pub squeezed : (ran cs).left.run.squeezed ≡ (told cs).left.squeezed
      pub output_length : (ran cs).left.length ≡ length_of (told cs).left.phase
      pub permutations : (ran cs).left.run.permutations ≡ permutations_of F p (told cs).left
      pub within : (told cs).left.squeezed ≤ transcript.output_most (rules F p) (told cs).left.phase
      pub output : joined (ran cs).bytes ≡ transcript.output_of (rules F p) (told cs).left (told cs).left.squeezed

    -- the permutations of the run that a list leaves, in the words of request Q-10, the prefix's bytes with the message's
    pub record Counts (cs : List (Call A)) : Type 0 where
      pub while_absorbing : (ran cs).left.run.phase ≡ 0 → (ran cs).left.run.permutations ≡ read_count F.rate (length p + length (told cs).left.absorbed)
      pub once_squeezing : (ran cs).left.run.phase ≡ 1
          → (ran cs).left.run.permutations
          ≡ ceil F.rate (length p + length (told cs).left.absorbed + length (ending F (length_of (told cs).left.phase)) + 1) + read_count F.rate (told cs).left.squeezed

  -- ---- one call, on any run

  pub record Calls : Type 0 where
    -- a refused call hands the run back, and leaves the lent output as it was
    pub refused : (x : Keyed) (c : Call A) (n : ℕ) → (answer F x c).status ≡ suc n → (answer F x c).keyed ≡ x
    pub refused-output : (x : Keyed) (out : List ℕ) (n : ℕ) → (answer F x (squeeze (length out))).status ≡ suc n → written F x out ≡ out
    -- a done squeeze leaves in the lent output the bytes that the list theorem speaks of
    pub done_output : (x : Keyed) (out : List ℕ) → (answer F x (squeeze (length out))).status ≡ 0 → written F x out ≡ (reply_of F x (squeeze (length out))).bytes
    -- a done absorb took every byte of its piece
    pub absorb_grows : (x : Keyed) (b : List ℕ) → (answer F x (absorb b)).status ≡ 0 → (answer F x (absorb b)).keyed.run.absorbed ≡ x.run.absorbed + length b

  -- ---- status 5, over the starts of the function, each with its prefix

  -- a call that a caller can make: there is no customization phase, so no call of one
  abbrev pub Callable : Call A → Type 0
  Callable (absorb b) = Slice b
  Callable (customize b) = ⊥
  Callable (finalize a) = F.said a < 2 ^ 64
  Callable finish = ⊥
  Callable (squeeze k) = k < 2 ^ 63

  module _ {Start : Type 0} (prefix_of : Start → List ℕ) where
    -- a start and a list of such calls leave x's phase, totals, output length, position and permutations
    pub record Reached (x : Keyed) : Type 0 where
      pub start : Start
      pub calls : List (Call A)
      pub callable : All Callable calls
      pub phase_is : (ran (prefix_of start) calls).left.run.phase ≡ x.run.phase
      pub absorbed_is : (ran (prefix_of start) calls).left.run.absorbed ≡ x.run.absorbed
      pub squeezed_is : (ran (prefix_of start) calls).left.run.squeezed ≡ x.run.squeezed
      pub length_is : (ran (prefix_of start) calls).left.length ≡ x.length
      pub position_is : (ran (prefix_of start) calls).left.run.position ≡ x.run.position
      pub permutations_is : (ran (prefix_of start) calls).left.run.permutations ≡ x.run.permutations

    -- 5 exactly where there is none; and where it is another status, here is one
    pub record Five : Type 0 where
      pub five_unreached : (x : Keyed) (c : Call A) → (answer F x c).status ≡ unreachable → Reached x → ⊥
      pub unreached_five : (x : Keyed) (c : Call A) → (Reached x → ⊥) → (answer F x c).status ≡ unreachable
      pub other_reached : (x : Keyed) (c : Call A) → ((answer F x c).status ≡ unreachable → ⊥) → Reached x

    pub record Claims : Type 0 where
      pub streaming : (s : Start) (cs : List (Call A)) → Streaming (prefix_of s) cs
      pub counts : (s : Start) (cs : List (Call A)) → Counts (prefix_of s) cs
      -- two lists that leave equal transcripts, after starts that absorbed the same, leave the same run
      pub equal_transcripts : (s t : Start) (cs ds : List (Call A)) → prefix_of s ≡ prefix_of t → (told (prefix_of s) cs).left ≡ (told (prefix_of t) ds).left
          → (ran (prefix_of s) cs).left ≡ (ran (prefix_of t) ds).left
      pub calls : Calls
      pub joins : Joins (λ (x : Keyed) (c : Call A). (answer F x c).status) (λ x c. (answer F x c).keyed) (written F)
      pub five : Five
