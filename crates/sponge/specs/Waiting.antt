-- A fold byte by byte over pieces of one length that leaves a full piece as it is until its next byte arrives: what blocks of a
-- sponge and chunks of a tree share.
-- Assumes nothing.
use Rattle.std.specs.Prelude.{List, [], ◌∷◌, cond, ℕ, zero, suc, ◌/◌, ◌%◌, eqb}

-- a value, and the position (document 01's place) in the piece in hand
pub record At (X : Type 0) : Type 0 where
  pub value : X
  pub position : ℕ

-- `full` is what becomes of a full piece, `put` takes a byte at a position of the piece
module _ {X : Type 0} (full : X → X) (r : ℕ) where
  abbrev pub ready : At X → At X
  ready s = cond (eqb s.position r) (record { value = full s.value; position = 0 }) s

module _ {X : Type 0} (full : X → X) (put : X → ℕ → ℕ → X) (r : ℕ) where
  abbrev pub step : At X → ℕ → At X
  step s b = record { value = put (ready full r s).value (ready full r s).position b; position = suc (ready full r s).position }

  abbrev pub steps : At X → List ℕ → At X
  steps s [] = s
  steps s (b ∷ bs) = steps (step s b) bs

-- the position after n bytes
abbrev pub position_after : ℕ → ℕ → ℕ
position_after r zero = 0
position_after r (suc n) = suc (n % r)

-- the number of the piece in hand after n bytes
abbrev pub index_after : ℕ → ℕ → ℕ
index_after r zero = 0
index_after r (suc n) = n / r
