-- `abreast::round::chi` meets its contract.
-- Assumes nothing.
use mathlib.Core.Path.{sym, ap}
use Prim.Native.Nat.{ℕ}
use lib.Bits.{bit_and, bit_xor}
use Rattle.keccak.proofs.Steps.{complement_is}
use Rattle.abreast.proofs.round.chi.Goals as goal

pub returns : goal.returns
returns c =
    let a = c.args in
    ap (λ (n : ℕ). bit_xor a.x (bit_and n a.z)) (sym (complement_is a.y))
