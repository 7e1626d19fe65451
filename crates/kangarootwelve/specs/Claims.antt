-- What is claimed of runs as the code holds them, of lists of calls from `fresh_of` in which plain calls and message feeds that lend a slice are mixed at
-- will: the law of joining, the permutations (request Q-10), and status 5; and of the call in one go that lends a slice. proofs/Claims.antt fills `Strengths`.
-- Assumes nothing.
use Rattle.std.specs.Prelude.{◌≡◌, List, ◌++◌, ℕ, ◌+◌, length}
use Rattle.keccak.specs.Permutation.{permuted}
use Rattle.sponge.specs.Status.{unreachable}
use Rattle.sponge.specs.Callable.{All}
use Rattle.sponge.specs.Waiting.{At, position_after, index_after}
use Rattle.sponge.specs.Model.{after_bytes}
use Rattle.sponge.specs.Count.{counted, fresh_counted}
use Rattle.sponge.specs.Transcript.{Call, Call.absorb, Phase, Phase.absorbing, Phase.customizing, Phase.squeezing, phase_number, Transcript, fresh_transcript, transcribe}
use Rattle.sponge.specs.Runs.{run_of}
use Rattle.sponge.specs.Streaming.{History, history, output_so, Streams}
use Rattle.sponge.specs.Lending.{CallWith, answer_with}
use Rattle.kangarootwelve.specs.Published.{length_encode, chunk}
use Rattle.kangarootwelve.specs.Transcript.{customized_of, CallableWith, rules}
use Rattle.kangarootwelve.specs.Tree.{absorb_tree_of, finalized_of}
use Rattle.kangarootwelve.specs.Count.{lanes_counted, CountedTree, permutations_of, tree_words, closed_words, count_due}
use Rattle.kangarootwelve.specs.Model.{machine, held, fresh_of, answer_of, reply_of, answer_abreast, hash_status, hash_output, abreast_status, abreast_output}
use Rattle.kangarootwelve.specs.declared.Run.{Run}

-- the counted tree before its first byte; and with n bytes of output squeezed
abbrev pub fresh_counted_tree : At CountedTree
fresh_counted_tree = record { value = record { final = fresh_counted; leaf = fresh_counted; index = 0 }; position = 0 }

abbrev pub squeezed_tree : ℕ → ℕ → CountedTree → CountedTree
squeezed_tree rate n t = record { final = after_bytes (counted permuted) rate n t.final; leaf = t.leaf; index = t.index }

module _ (rate chaining : ℕ) where
  -- ---- lists of calls from a fresh run: by the transcript, document 01's book, and by the code's runs

  abbrev pub Calls : Type 0
  Calls = List (CallWith (List ℕ))

  abbrev pub told : Calls → History (Transcript (List ℕ))
  told cs = history (answer_with (transcribe (rules rate chaining))) fresh_transcript cs

  abbrev pub ran : Calls → History Run
  ran cs = history (answer_with (reply_of rate chaining)) (fresh_of rate chaining) cs

  -- the run that a transcript tells of
  abbrev pub run_told : Transcript (List ℕ) → Run
  run_told t = held (run_of (rules rate chaining) (machine rate chaining) t)

  -- the law of joining (demand 3)
  pub record Joining : Type 0 where
    -- the statuses and bytes of every list of calls, refused ones included, are the book's, the run is the one that it tells of, and the bytes read are the
    -- first bytes of the published function of what was fed
    pub streams : (cs : Calls) → Streams (answer_with (reply_of rate chaining)) (answer_with (transcribe (rules rate chaining))) run_told (output_so (rules rate chaining)) (fresh_of rate chaining) fresh_transcript cs
    -- equal books leave equal runs, by whichever engine they were fed
    pub equal_transcripts : (cs ds : Calls) → (told cs).left ≡ (told ds).left → (ran cs).left ≡ (ran ds).left
    -- on every run, with 100 words lent, a feed answers as the plain one does; with another number of them 12, and nothing changes
    pub abreast_plain : (r : Run) (p : List ℕ) → answer_abreast rate chaining r 100 p ≡ answer_of rate chaining r (absorb p)
    pub abreast_refused : (r : Run) (n : ℕ) (p : List ℕ) → (n ≡ 100 → ⊥) → answer_abreast rate chaining r n p ≡ record { status = 12; run = r }

  -- in one go, with 100 words lent: the number and the bytes of the plain call; with another number of them 12, and no byte is written
  pub record OneGo : Type 0 where
    pub plain-status : (m c n : ℕ) → abreast_status 100 m c n ≡ hash_status m c n
    pub plain-output : (m c out : List ℕ) → abreast_output rate chaining 100 m c out ≡ hash_output rate chaining m c out
    pub refused-status : (k m c n : ℕ) → (k ≡ 100 → ⊥) → abreast_status k m c n ≡ 12
    pub refused-output : (k : ℕ) (m c out : List ℕ) → (k ≡ 100 → ⊥) → abreast_output rate chaining k m c out ≡ out

  -- ---- the permutations

  -- those of the definition for the bytes of a transcript: f is M so far, n bytes are squeezed
  abbrev pub defined_count_at : List ℕ → Phase (List ℕ) → ℕ → ℕ
  defined_count_at f absorbing n = permutations_of (absorb_tree_of lanes_counted rate chaining fresh_counted_tree f).value
  defined_count_at f (customizing c) n = permutations_of (absorb_tree_of lanes_counted rate chaining fresh_counted_tree (f ++ c)).value
  defined_count_at f (squeezing c) n = permutations_of (squeezed_tree rate n (finalized_of lanes_counted rate chaining (absorb_tree_of lanes_counted rate chaining fresh_counted_tree f) c))

  abbrev pub defined_count : Transcript (List ℕ) → ℕ
  defined_count t = defined_count_at t.absorbed t.phase t.squeezed

  -- those that the totals tell
  abbrev pub told_count : Transcript (List ℕ) → ℕ
  told_count t = count_due rate chaining (phase_number t.phase) (length t.absorbed + customized_of t.phase) (customized_of t.phase) t.squeezed

  -- the bytes of M and C, and of S
  abbrev pub fed : Transcript (List ℕ) → ℕ
  fed t = length t.absorbed + customized_of t.phase

  abbrev pub whole : Transcript (List ℕ) → ℕ
  whole t = fed t + length (length_encode (customized_of t.phase))

  pub record Counts : Type 0 where
    -- after every list of calls, refused ones included, the run has the definition's for the book, and these are what the totals tell
    pub definition : (cs : Calls) → (ran cs).left.permutations ≡ defined_count (told cs).left
    pub totals : (cs : Calls) → (ran cs).left.permutations ≡ told_count (told cs).left
    -- and, in the request's words, of the bytes of M and C in an open run, and of all of S in a closed one
    pub while_open : (cs : Calls) → ((ran cs).left.phase ≡ 1 → ⊥)
        → (ran cs).left.permutations ≡ tree_words rate chaining (index_after chunk (fed (told cs).left)) (position_after chunk (fed (told cs).left))
    pub once_closed : (cs : Calls) → (ran cs).left.phase ≡ 1
        → (ran cs).left.permutations ≡ closed_words rate chaining (index_after chunk (whole (told cs).left)) (position_after chunk (whole (told cs).left)) (told cs).left.squeezed

  -- ---- status 5

  -- a list of calls that a caller can make leaves r's phase, totals, positions and permutations
  pub record Reached (r : Run) : Type 0 where
    pub calls : Calls
    pub callable : All CallableWith calls
    pub phase_is : (ran calls).left.phase ≡ r.phase
    pub absorbed_is : (ran calls).left.absorbed ≡ r.absorbed
    pub customized_is : (ran calls).left.customized ≡ r.customized
    pub squeezed_is : (ran calls).left.squeezed ≡ r.squeezed
    pub node_is : (ran calls).left.node.position ≡ r.node.position
    pub leaf_is : (ran calls).left.leaf.position ≡ r.leaf.position
    pub permutations_is : (ran calls).left.permutations ≡ r.permutations

  -- 5 exactly where there is none; and where it is another status, here is one
  pub record Five : Type 0 where
    pub five_unreached : (r : Run) (c : Call (List ℕ)) → (answer_of rate chaining r c).status ≡ unreachable → Reached r → ⊥
    pub unreached_five : (r : Run) (c : Call (List ℕ)) → (Reached r → ⊥) → (answer_of rate chaining r c).status ≡ unreachable
    pub other_reached : (r : Run) (c : Call (List ℕ)) → ((answer_of rate chaining r c).status ≡ unreachable → ⊥) → Reached r

-- of both strengths
pub record Strengths : Type 0 where
  pub joining128 : Joining 168 32
  pub joining256 : Joining 136 64
  pub one_go128 : OneGo 168 32
  pub one_go256 : OneGo 136 64
  pub counts128 : Counts 168 32
  pub counts256 : Counts 136 64
  pub five128 : Five 168 32
  pub five256 : Five 136 64
