-- Calls that lend a slice of words beside their arguments (request Q-6): what the transcript, document 01's book, and a run answer to them, for any function.
-- Assumes nothing.
use Rattle.std.specs.Prelude.{List, [], ◌∷◌, ℕ, zero, suc}
use Rattle.abreast.specs.Four.{states_status}
use Rattle.sponge.specs.Status.{done}
use Rattle.sponge.specs.Transcript.{Call, Reply}

-- what a call lends: nothing, or a slice of so many words
pub data Lending : Type 0 where
  nothing : Lending
  words : ℕ → Lending

-- a call, and what it lends
pub record CallWith (A : Type 0) : Type 0 where
  pub call : Call A
  pub lending : Lending

-- 12 for a slice of another length than 100
abbrev pub lending_status : Lending → ℕ
lending_status nothing = done
lending_status (words n) = states_status n

-- refused by this number, if it is one, before all others, and else as r
abbrev pub unless_refused : {X : Type 0} → ℕ → X → Reply X → Reply X
unless_refused zero x r = r
unless_refused (suc n) x r = record { status = suc n; bytes = []; left = x }

-- f is what is answered to a call that lends nothing: by the transcript, or by a run
abbrev pub answer_with : {A X : Type 0} → (X → Call A → Reply X) → X → CallWith A → Reply X
answer_with f x c = unless_refused (lending_status c.lending) x (f x c.call)

-- calls that lend nothing
abbrev pub plainly : {A : Type 0} → List (Call A) → List (CallWith A)
plainly [] = []
plainly (c ∷ cs) = record { call = c; lending = nothing } ∷ plainly cs
