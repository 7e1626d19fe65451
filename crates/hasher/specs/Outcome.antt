-- An answer as a result, for callers that go on with the run only where the call was done.
-- Assumes nothing.
use Rattle.std.specs.Prelude.{ℕ, zero, suc, Result, Ok, Err}
use Rattle.hasher.specs.declared.outcome.Refusal.{Refusal}

-- the run where the status is 0, else the refusal by its number
abbrev pub result_of : {H : Type 0} → H → ℕ → Result H Refusal
result_of h zero = Ok h
result_of h (suc n) = Err (record { status = suc n })
