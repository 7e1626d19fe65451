-- A run of any function that is absorbed into, finalized and squeezed: what each call does to it on every input.
-- Assumes nothing.
use Rattle.std.specs.Prelude.{List, [], Bool, cond, ℕ, ◌+◌, length}
use Rattle.sponge.specs.Status.{unreachable}
use Rattle.sponge.specs.Transcript.{Call, Call.absorb, Call.customize, Call.finalize, Call.finish, Call.squeeze, Phase, Phase.absorbing, Phase.customizing, Phase.squeezing, phase_number, Transcript, Rules, Reply, reply, status_of}

-- a state, the phase (0 absorbing, 1 squeezing, 2 customizing, any other none), and document 01's bytes fed and bytes read. The third total of
-- request Q-2, the customization bytes, is told by the state: a function without a customization phase does not have it
pub record Run (S : Type 0) : Type 0 where
  pub state : S
  pub phase : ℕ
  pub absorbed : ℕ
  pub squeezed : ℕ

-- what becomes of a state (each call that absorbs or closes is given how many bytes were absorbed before the customization phase), the bytes of
-- a squeeze of n bytes and the state after it, the customization bytes that a state has, the read limit that a finalize left in it, and the test
-- of status 5
pub record Machine (S A : Type 0) : Type 0 where
  pub fresh : S
  pub absorb : ℕ → S → List ℕ → S
  pub customize : ℕ → S → List ℕ → S
  pub finalize : ℕ → S → A → S
  pub finish : ℕ → S → S
  pub squeeze : ℕ → S → List ℕ
  pub after : ℕ → S → S
  pub customized : S → ℕ
  pub limit : S → ℕ
  pub reachable : Run S → Bool

module _ {S A : Type 0} (U : Rules A) (M : Machine S A) where
  abbrev pub fresh_run : Run S
  fresh_run = record { state = M.fresh; phase = 0; absorbed = 0; squeezed = 0 }

  -- a call with status 0: the run that it leaves, and the bytes
  abbrev pub worked : Run S → Call A → Run S
  worked r (absorb p) = record { state = M.absorb r.absorbed r.state p; phase = r.phase; absorbed = r.absorbed + length p; squeezed = r.squeezed }
  worked r (customize p) = record { state = M.customize r.absorbed r.state p; phase = 2; absorbed = r.absorbed; squeezed = r.squeezed }
  worked r (finalize a) = record { state = M.finalize r.absorbed r.state a; phase = 1; absorbed = r.absorbed; squeezed = r.squeezed }
  worked r finish = record { state = M.finish r.absorbed r.state; phase = 1; absorbed = r.absorbed; squeezed = r.squeezed }
  worked r (squeeze k) = record { state = M.after k r.state; phase = r.phase; absorbed = r.absorbed; squeezed = r.squeezed + k }

  abbrev pub bytes_out : Run S → Call A → List ℕ
  bytes_out r (absorb p) = []
  bytes_out r (customize p) = []
  bytes_out r (finalize a) = []
  bytes_out r finish = []
  bytes_out r (squeeze k) = M.squeeze k r.state

  -- the status: 5 before any other
  abbrev pub run_status : Run S → Call A → ℕ
  run_status r c = cond (M.reachable r) (status_of U r.phase r.absorbed (M.customized r.state) r.squeezed (M.limit r.state) c) unreachable

  unfoldable pub perform : Run S → Call A → Reply (Run S)
  perform r c = reply (run_status r c) (bytes_out r c) (worked r c) r

  -- the run that a transcript tells of: a function of the transcript alone
  abbrev pub state_of : List ℕ → Phase A → ℕ → S
  state_of f absorbing n = M.absorb 0 M.fresh f
  state_of f (customizing c) n = M.customize (length f) (M.absorb 0 M.fresh f) c
  state_of f (squeezing a) n = M.after n (M.finalize (length f) (M.absorb 0 M.fresh f) a)

  abbrev pub run_of : Transcript A → Run S
  run_of t = record { state = state_of t.absorbed t.phase t.squeezed; phase = phase_number t.phase; absorbed = length t.absorbed; squeezed = t.squeezed }
