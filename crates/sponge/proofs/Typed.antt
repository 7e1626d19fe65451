-- What the type of a lent slice tells: it is bytes.
-- Assumes nothing.
use mathlib.Core.List.{List, [], ◌∷◌}
use Prim.Native.Nat.{ℕ, suc}
use mir.Syntax.{w8}
use mir.Val.{Fits}
use lib.ListN.{get_or}
use Rattle.sponge.specs.Callable.{Bytes}

pub slice_bytes : (s : List ℕ) → ((i : ℕ) → Fits w8 (get_or s i 0)) → Bytes s
slice_bytes [] h = tt
slice_bytes (b ∷ s) h = ((h 0).fits, slice_bytes s (λ i. h (suc i)))
