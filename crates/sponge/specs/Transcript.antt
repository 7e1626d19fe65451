-- The transcript of a run, document 01's book, for any function that is absorbed into, finalized and squeezed. It sees the
-- calls' arguments alone, and of a lent output its length. `leb a b` tests a ≤ b, `eqb a b` tests a = b.
-- Assumes nothing.
use Rattle.std.specs.Prelude.{List, [], ◌++◌, cond, ℕ, zero, suc, ◌+◌, length, drop, eqb, leb}
use Rattle.sponge.specs.Status.{done, input_too_long, wrong_phase, customization_too_long, output_too_long, first_of}

-- a call: document 01's feed of P, close with a D or C, and read of k bytes; request Q-2's customization piece, and its close of a
-- customization phase, which has no argument
pub data Call (A : Type 0) : Type 0 where
  absorb : List ℕ → Call A
  customize : List ℕ → Call A
  finalize : A → Call A
  finish : Call A
  squeeze : ℕ → Call A

-- open; in the customization phase, with the C absorbed so far; or closed with the D or C
pub data Phase (A : Type 0) : Type 0 where
  absorbing : Phase A
  customizing : List ℕ → Phase A
  squeezing : A → Phase A

-- a phase as a run holds it
abbrev pub phase_number : {A : Type 0} → Phase A → ℕ
phase_number absorbing = 0
phase_number (squeezing a) = 1
phase_number (customizing c) = 2

-- the C of the customization phase so far, none in any other
abbrev pub customization_of : {A : Type 0} → Phase A → List ℕ
customization_of absorbing = []
customization_of (customizing c) = c
customization_of (squeezing a) = []

-- the bytes absorbed (document 01's F), the phase, with C so far or, once closed, the D or C, and the number of bytes squeezed (R)
pub record Transcript (A : Type 0) : Type 0 where
  pub absorbed : List ℕ
  pub phase : Phase A
  pub squeezed : ℕ

abbrev pub fresh_transcript : {A : Type 0} → Transcript A
fresh_transcript = record { absorbed = []; phase = absorbing; squeezed = 0 }

-- a function has no customization phase; or one for up to this many bytes, and the finalize's argument that they are, joined
pub data Customization (A : Type 0) : Type 0 where
  none : Customization A
  up_to : ℕ → (List ℕ → A) → Customization A

-- a function: its published output, the status of a finalize's argument and of a piece of n bytes, each by itself (0 where it is
-- taken), its customization phase, and the two limits, that of reading by the finalize's argument
pub record Rules (A : Type 0) : Type 0 where
  pub output : List ℕ → A → ℕ → List ℕ
  pub argument : A → ℕ
  pub piece : ℕ → ℕ
  pub customization : Customization A
  pub input_limit : ℕ
  pub output_limit : A → ℕ

-- the same function, whose pieces have another status
abbrev pub with_pieces : {A : Type 0} → Rules A → (ℕ → ℕ) → Rules A
with_pieces U piece = record {
  output = U.output;
  argument = U.argument;
  piece = piece;
  customization = U.customization;
  input_limit = U.input_limit;
  output_limit = U.output_limit;
}

-- the status of a customization piece with which C has n bytes, and of the close of the phase: 3 where the function has none
abbrev pub customize_status : {A : Type 0} → Customization A → ℕ → ℕ
customize_status none n = wrong_phase
customize_status (up_to most of) n = cond (leb n most) done customization_too_long

abbrev pub finish_status : {A : Type 0} → Customization A → ℕ
finish_status none = wrong_phase
finish_status (up_to most of) = done

-- the phase that this close leaves: the C absorbed so far is the argument
abbrev pub finished : {A : Type 0} → Customization A → Phase A → Phase A
finished none h = h
finished (up_to most of) absorbing = absorbing
finished (up_to most of) (customizing c) = squeezing (of c)
finished (up_to most of) (squeezing a) = squeezing a

-- a call's status, the bytes that it gives, and what it leaves: a transcript or a run
pub record Reply (X : Type 0) : Type 0 where
  pub status : ℕ
  pub bytes : List ℕ
  pub left : X

-- a call with status 0 does its work; any other gives nothing and leaves all as it was
abbrev pub reply : {X : Type 0} → ℕ → List ℕ → X → X → Reply X
reply zero bytes new old = record { status = done; bytes = bytes; left = new }
reply (suc n) bytes new old = record { status = suc n; bytes = []; left = old }

-- what a lent output holds after a call with this status, which held `old` before
abbrev pub lent : ℕ → List ℕ → List ℕ → List ℕ
lent zero bytes old = bytes
lent (suc n) bytes old = old

module _ {A : Type 0} (U : Rules A) where
  -- the read limit, the most bytes of output: none before the close
  abbrev pub output_most : Phase A → ℕ
  output_most absorbing = 0
  output_most (customizing c) = 0
  output_most (squeezing a) = U.output_limit a

  -- the status, by the phase, the three totals and the read limit: 3, then that of the piece or the argument by itself, then 2, 4 or 6
  abbrev pub status_of : ℕ → ℕ → ℕ → ℕ → ℕ → Call A → ℕ
  status_of phase absorbed customized squeezed most (absorb p) = cond (eqb phase 0) (first_of (U.piece (length p)) (cond (leb (absorbed + length p) U.input_limit) done input_too_long)) wrong_phase
  status_of phase absorbed customized squeezed most (customize p) = cond (eqb phase 1) wrong_phase (customize_status U.customization (customized + length p))
  status_of phase absorbed customized squeezed most (finalize a) = cond (eqb phase 0) (U.argument a) wrong_phase
  status_of phase absorbed customized squeezed most finish = cond (eqb phase 2) (finish_status U.customization) wrong_phase
  status_of phase absorbed customized squeezed most (squeeze k) = cond (eqb phase 1) (cond (leb (squeezed + k) most) done output_too_long) wrong_phase

  -- the transcript's answer
  abbrev pub status_at : Transcript A → Call A → ℕ
  status_at t c = status_of (phase_number t.phase) (length t.absorbed) (length (customization_of t.phase)) t.squeezed (output_most t.phase) c

  -- the first n bytes of the output, once closed
  abbrev pub output_of : Transcript A → ℕ → List ℕ
  output_of t n = elim t.phase [ absorbing ↦ [] | customizing c ↦ [] | squeezing a ↦ U.output t.absorbed a n ]

  -- a call with status 0: what the transcript is then, and the bytes, those that follow the ones squeezed before
  abbrev pub written : Transcript A → Call A → Transcript A
  written t (absorb p) = record { absorbed = t.absorbed ++ p; phase = t.phase; squeezed = t.squeezed }
  written t (customize p) = record { absorbed = t.absorbed; phase = customizing (customization_of t.phase ++ p); squeezed = t.squeezed }
  written t (finalize a) = record { absorbed = t.absorbed; phase = squeezing a; squeezed = t.squeezed }
  written t finish = record { absorbed = t.absorbed; phase = finished U.customization t.phase; squeezed = t.squeezed }
  written t (squeeze k) = record { absorbed = t.absorbed; phase = t.phase; squeezed = t.squeezed + k }

  abbrev pub given : Transcript A → Call A → List ℕ
  given t (absorb p) = []
  given t (customize p) = []
  given t (finalize a) = []
  given t finish = []
  given t (squeeze k) = drop t.squeezed (output_of t (t.squeezed + k))

  unfoldable pub transcribe : Transcript A → Call A → Reply (Transcript A)
  transcribe t c = reply (status_at t c) (given t c) (written t c) t
