-- What is claimed of the six functions: all that Claims.antt claims of runs after a start, on the functions' own runs; that the output of which it speaks is
-- the published one; that cSHAKE with both strings empty is SHAKE; and that no two sets of inputs have one string before one ending byte.
-- Assumes nothing.
use Rattle.std.specs.Prelude.{◌≡◌, List, [], true, false, ℕ, suc, ◌≤◌, length, take}
use Rattle.sponge.specs.Status.{unreachable}
use Rattle.sponge.specs.Callable.{Slice, All}
use Rattle.sponge.specs.Transcript.{Call, Call.squeeze, Phase.squeezing}
use Rattle.sponge.specs.Streaming.{History, history, joined}
use Rattle.fips202.specs.Published.{shake}
use Rattle.hasher.specs.Function as function
use Rattle.hasher.specs.Model as hasher
use Rattle.hasher.specs.Claims as unnamed
use Rattle.hasher.specs.declared.Run.{Run}
use Rattle.sp800_185.specs.Published.{both_empty, ending_byte, cshake_prefix, cshake_string, cshake, kmac_string, kmac, kmacxof}
use Rattle.sp800_185.specs.Start.{string_limit, key_limit, kmac_prefix, start_run, cshake_blocks, kmac_blocks}
use Rattle.sp800_185.specs.Function.{cshake_at, kmac_at, kmacxof_at, output}
use Rattle.sp800_185.specs.Model as model
use Rattle.sp800_185.specs.Cshake as customizable
use Rattle.sp800_185.specs.Cshake.{shake_at}
use Rattle.sp800_185.specs.Kmac as keyed
use Rattle.sp800_185.specs.Claims.{Joins, told, ran, Callable, Claims}
use Rattle.sp800_185.specs.Cshake.{Customized}

-- ---- the starts that are answered 0, of strings and keys that a caller can lend

pub record CshakeStart : Type 0 where
  pub name : List ℕ
  pub string : List ℕ
  pub name_slice : Slice name
  pub string_slice : Slice string
  pub taken : customizable.start_status (length name) (length string) ≡ 0

-- those that are none of SHAKE
pub record NamedStart : Type 0 where
  pub start : CshakeStart
  pub some : both_empty start.name start.string ≡ false

pub record KmacStart : Type 0 where
  pub key : List ℕ
  pub string : List ℕ
  pub key_slice : Slice key
  pub string_slice : Slice string
  pub taken : keyed.start_status (length key) (length string) ≡ 0

abbrev pub named_prefix : ℕ → NamedStart → List ℕ
named_prefix rate s = cshake_prefix rate s.start.name s.start.string

abbrev pub keyed_prefix : ℕ → KmacStart → List ℕ
keyed_prefix rate s = kmac_prefix rate s.key s.string

-- ---- cSHAKE

module _ (rate most : ℕ) where
  -- a list of calls on cSHAKE's own runs after a start with N and S
  abbrev pub cshake_ran : List ℕ → List ℕ → List (Call (Unit {0})) → History Customized
  cshake_ran n s cs = history (customizable.reply_of rate most) (customizable.start_of rate n s) cs

  -- a start and a list of calls that a caller can make leave x's bit, phase, totals, position and permutations
  pub record CshakeReached (x : Customized) : Type 0 where
    pub start : CshakeStart
    pub calls : List (Call (Unit {0}))
    pub callable : All (Callable (cshake_at rate most)) calls
    pub shake_is : (cshake_ran start.name start.string calls).left.shake ≡ x.shake
    pub phase_is : (cshake_ran start.name start.string calls).left.run.phase ≡ x.run.phase
    pub absorbed_is : (cshake_ran start.name start.string calls).left.run.absorbed ≡ x.run.absorbed
    pub squeezed_is : (cshake_ran start.name start.string calls).left.run.squeezed ≡ x.run.squeezed
    pub position_is : (cshake_ran start.name start.string calls).left.run.position ≡ x.run.position
    pub permutations_is : (cshake_ran start.name start.string calls).left.run.permutations ≡ x.run.permutations

  pub record CshakeOf : Type 0 where
    pub start : (n s : List ℕ) → customizable.start_status (length n) (length s) ≡ 0 → customizable.start_answer rate n s ≡ record { customized = customizable.start_of rate n s; status = 0 }
    pub refused-start : (n s : List ℕ) (k : ℕ) → customizable.start_status (length n) (length s) ≡ suc k
        → ((customizable.start_answer rate n s).status ≡ suc k) × ((c : Call (Unit {0})) → (customizable.answer rate most (customizable.start_answer rate n s).customized c).status ≡ unreachable)
    -- strings that are not both empty: lists on cSHAKE's own runs are those that `named` speaks of, and the bit stays; two that leave equal transcripts leave
    -- the same run
    pub named : Claims (cshake_at rate most) (named_prefix rate)
    pub named-ran : (n s : List ℕ) (cs : List (Call (Unit {0}))) → both_empty n s ≡ false
        → (ran (cshake_at rate most) (cshake_prefix rate n s) cs
        ≡ record { statuses = (cshake_ran n s cs).statuses; bytes = (cshake_ran n s cs).bytes; left = record { run = (cshake_ran n s cs).left.run; length = 0 } })
        × ((cshake_ran n s cs).left.shake ≡ false)
    pub named-equal : (s : NamedStart) (cs ds : List (Call (Unit {0}))) → (told (cshake_at rate most) (named_prefix rate s) cs).left ≡ (told (cshake_at rate most) (named_prefix rate s) ds).left
        → (cshake_ran s.start.name s.start.string cs).left ≡ (cshake_ran s.start.name s.start.string ds).left
    pub published : (n s x : List ℕ) (l : ℕ) → both_empty n s ≡ false → output (cshake_at rate most) (cshake_prefix rate n s) x tt l ≡ cshake rate x l n s
    -- both empty: lists on cSHAKE's own runs are SHAKE's, of which hasher makes its claims, and the bit stays; so are the published function and calls in one
    -- go
    pub both_empty_lem : unnamed.Claims (shake_at rate)
    pub both_empty-ran : (cs : List (Call (Unit {0})))
        → (unnamed.ran (shake_at rate) cs ≡ record { statuses = (cshake_ran [] [] cs).statuses; bytes = (cshake_ran [] [] cs).bytes; left = (cshake_ran [] [] cs).left.run })
        × ((cshake_ran [] [] cs).left.shake ≡ true)
    pub both_empty-equal : (cs ds : List (Call (Unit {0}))) → (unnamed.told (shake_at rate) cs).left ≡ (unnamed.told (shake_at rate) ds).left → (cshake_ran [] [] cs).left ≡ (cshake_ran [] [] ds).left
    pub shake-published : (x : List ℕ) (l : ℕ) → cshake rate x l [] [] ≡ function.output (shake_at rate) x tt l
    pub shake-status : (m l : ℕ) → customizable.one_go_status 0 0 m l ≡ hasher.one_go_status (shake_at rate) m tt l
    pub shake-output : (x out : List ℕ) → customizable.one_go_output rate x [] [] out ≡ hasher.one_go_output (shake_at rate) x tt out
    -- one call on any run: a refused one hands the run back and leaves the lent output as it was, and a done squeeze leaves in it the bytes that the list
    -- theorem speaks of
    pub refused : (x : Customized) (c : Call (Unit {0})) (k : ℕ) → (customizable.answer rate most x c).status ≡ suc k → (customizable.answer rate most x c).customized ≡ x
    pub refused-output : (x : Customized) (out : List ℕ) (k : ℕ) → (customizable.answer rate most x (squeeze (length out))).status ≡ suc k → customizable.written rate most x out ≡ out
    pub done_output : (x : Customized) (out : List ℕ) → (customizable.answer rate most x (squeeze (length out))).status ≡ 0
        → customizable.written rate most x out ≡ (customizable.reply_of rate most x (squeeze (length out))).bytes
    pub joins : Joins (λ x c. (customizable.answer rate most x c).status) (λ x c. (customizable.answer rate most x c).customized) (customizable.written rate most)
    -- 5 exactly where no start and calls lead, the bit looked at too; and where it is another status, here they are
    pub five_unreached : (x : Customized) (c : Call (Unit {0})) → (customizable.answer rate most x c).status ≡ unreachable → CshakeReached x → ⊥
    pub unreached_five : (x : Customized) (c : Call (Unit {0})) → (CshakeReached x → ⊥) → (customizable.answer rate most x c).status ≡ unreachable
    pub other_reached : (x : Customized) (c : Call (Unit {0})) → ((customizable.answer rate most x c).status ≡ unreachable → ⊥) → CshakeReached x
    -- the most blocks are those of the longest strings; a shorter output is the first bytes of a longer one
    pub most_is : most ≡ cshake_blocks rate string_limit string_limit
    pub shorter : (x n s : List ℕ) (k l : ℕ) → k ≤ l → cshake rate x k n s ≡ take k (cshake rate x l n s)

  -- ---- KMAC and KMACXOF

  pub record KmacOf : Type 0 where
    pub start : (k s : List ℕ) → keyed.start_status (length k) (length s) ≡ 0 → keyed.start_answer rate k s ≡ record { keyed = model.start_of (kmac_at rate most) (kmac_prefix rate k s); status = 0 }
    pub refused-start : (k s : List ℕ) (n : ℕ) → keyed.start_status (length k) (length s) ≡ suc n
        → ((keyed.start_answer rate k s).status ≡ suc n) × ((c : Call ℕ) → (model.answer (kmac_at rate most) (keyed.start_answer rate k s).keyed c).status ≡ unreachable)
    pub runs : Claims (kmac_at rate most) (keyed_prefix rate)
    -- of an output of l bytes: all of them, and the first n
    pub published : (k s x : List ℕ) (l : ℕ) → output (kmac_at rate most) (kmac_prefix rate k s) x l l ≡ kmac rate k x l s
    pub first_bytes : (k s x : List ℕ) (l n : ℕ) → n ≤ l → output (kmac_at rate most) (kmac_prefix rate k s) x l n ≡ take n (kmac rate k x l s)
    -- so what a list reads after a close that fixed l bytes are the first bytes of the published ones
    pub read : (s : KmacStart) (cs : List (Call ℕ)) (l : ℕ) → (told (kmac_at rate most) (keyed_prefix rate s) cs).left.phase ≡ squeezing l
        → joined (ran (kmac_at rate most) (keyed_prefix rate s) cs).bytes
        ≡ take (told (kmac_at rate most) (keyed_prefix rate s) cs).left.squeezed (kmac rate s.key (told (kmac_at rate most) (keyed_prefix rate s) cs).left.absorbed l s.string)
    pub most_is : most ≡ kmac_blocks rate key_limit string_limit

  -- a list of calls on KMACXOF's own runs after a start with the key and S
  abbrev pub xof_ran : List ℕ → List ℕ → List (Call (Unit {0})) → History Run
  xof_ran k s cs = history (model.run_reply (kmacxof_at rate most)) (start_run rate (kmac_prefix rate k s)) cs

  -- a start and a list of calls that a caller can make leave r's phase, totals, position and permutations
  pub record XofReached (r : Run) : Type 0 where
    pub start : KmacStart
    pub calls : List (Call (Unit {0}))
    pub callable : All (Callable (kmacxof_at rate most)) calls
    pub phase_is : (xof_ran start.key start.string calls).left.phase ≡ r.phase
    pub absorbed_is : (xof_ran start.key start.string calls).left.absorbed ≡ r.absorbed
    pub squeezed_is : (xof_ran start.key start.string calls).left.squeezed ≡ r.squeezed
    pub position_is : (xof_ran start.key start.string calls).left.position ≡ r.position
    pub permutations_is : (xof_ran start.key start.string calls).left.permutations ≡ r.permutations

  pub record KmacxofOf : Type 0 where
    pub start : (k s : List ℕ) → keyed.start_status (length k) (length s) ≡ 0 → keyed.xof_start_answer rate k s ≡ record { run = start_run rate (kmac_prefix rate k s); status = 0 }
    pub refused-start : (k s : List ℕ) (n : ℕ) → keyed.start_status (length k) (length s) ≡ suc n
        → ((keyed.xof_start_answer rate k s).status ≡ suc n) × ((c : Call (Unit {0})) → (keyed.xof_answer rate most (keyed.xof_start_answer rate k s).run c).status ≡ unreachable)
    -- lists on KMACXOF's own runs are those that `runs` speaks of
    pub runs : Claims (kmacxof_at rate most) (keyed_prefix rate)
    pub runs-ran : (k s : List ℕ) (cs : List (Call (Unit {0})))
        → ran (kmacxof_at rate most) (kmac_prefix rate k s) cs ≡ record { statuses = (xof_ran k s cs).statuses; bytes = (xof_ran k s cs).bytes; left = record { run = (xof_ran k s cs).left; length = 0 } }
    pub runs-equal : (s : KmacStart) (cs ds : List (Call (Unit {0}))) → (told (kmacxof_at rate most) (keyed_prefix rate s) cs).left ≡ (told (kmacxof_at rate most) (keyed_prefix rate s) ds).left
        → (xof_ran s.key s.string cs).left ≡ (xof_ran s.key s.string ds).left
    pub refused : (r : Run) (c : Call (Unit {0})) (n : ℕ) → (keyed.xof_answer rate most r c).status ≡ suc n → (keyed.xof_answer rate most r c).run ≡ r
    pub refused-output : (r : Run) (out : List ℕ) (n : ℕ) → (keyed.xof_answer rate most r (squeeze (length out))).status ≡ suc n → keyed.xof_written rate most r out ≡ out
    pub done_output : (r : Run) (out : List ℕ) → (keyed.xof_answer rate most r (squeeze (length out))).status ≡ 0 → keyed.xof_written rate most r out ≡ (model.run_reply (kmacxof_at rate most) r (squeeze (length out))).bytes
    pub joins : Joins (λ r c. (keyed.xof_answer rate most r c).status) (λ r c. (keyed.xof_answer rate most r c).run) (keyed.xof_written rate most)
    pub five_unreached : (r : Run) (c : Call (Unit {0})) → (keyed.xof_answer rate most r c).status ≡ unreachable → XofReached r → ⊥
    pub unreached_five : (r : Run) (c : Call (Unit {0})) → (XofReached r → ⊥) → (keyed.xof_answer rate most r c).status ≡ unreachable
    pub other_reached : (r : Run) (c : Call (Unit {0})) → ((keyed.xof_answer rate most r c).status ≡ unreachable → ⊥) → XofReached r
    pub published : (k s x : List ℕ) (l : ℕ) → output (kmacxof_at rate most) (kmac_prefix rate k s) x tt l ≡ kmacxof rate k x l s
    pub shorter : (key x s : List ℕ) (k l : ℕ) → k ≤ l → kmacxof rate key x k s ≡ take k (kmacxof rate key x l s)
    pub most_is : most ≡ kmac_blocks rate key_limit string_limit

-- ---- no two sets of inputs to one function have one string before one ending byte, at any rate and of any length; KMAC's ending byte is one

pub record Injective : Type 0 where
  pub of_cshake : (rate : ℕ) (x n s x' n' s' : List ℕ) → cshake_string rate x n s ≡ cshake_string rate x' n' s' → ending_byte n s ≡ ending_byte n' s' → (x ≡ x') × (n ≡ n') × (s ≡ s')
  pub of_kmac : (rate : ℕ) (k x : List ℕ) (l : ℕ) (s k' x' : List ℕ) (l' : ℕ) (s' : List ℕ) → kmac_string rate k x l s ≡ kmac_string rate k' x' l' s' → (k ≡ k') × (x ≡ x') × (l ≡ l') × (s ≡ s')
  pub of_kmacxof_lem : (rate : ℕ) (k x s k' x' s' : List ℕ) → kmac_string rate k x 0 s ≡ kmac_string rate k' x' 0 s' → (k ≡ k') × (x ≡ x') × (s ≡ s')

pub record Family : Type 0 where
  pub cshake128 : CshakeOf 168 199729
  pub cshake256 : CshakeOf 136 246724
  pub kmac128 : KmacOf 168 102360992
  pub kmac256 : KmacOf 136 126445930
  pub kmacxof128 : KmacxofOf 168 102360992
  pub kmacxof256 : KmacxofOf 136 126445930
  pub injective : Injective
  -- and SHAKE128, SHAKE256 of FIPS 202 by their names
  pub shake128 : (x : List ℕ) (l : ℕ) → cshake 168 x l [] [] ≡ shake 16 x l
  pub shake256 : (x : List ℕ) (l : ℕ) → cshake 136 x l [] [] ≡ shake 32 x l
