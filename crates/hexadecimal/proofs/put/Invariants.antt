-- `hexadecimal::put` meets its contract. The loop's invariant: the digits that are left, stored, give what all of them give, stored into the
-- text of the beginning.
-- Assumes nothing.
use mathlib.Core.Path.{◌≡◌}
use Prim.Native.Nat.{◌+◌, ◌*◌, ◌≤◌}
use lib.ListN.{length}
use Rattle.hexadecimal.proofs.Stores.{rest}
use Rattle.hexadecimal.proofs.put.Given as goal

abbrev pub invariant-loop-i : goal.invariant-loop-i
invariant-loop-i l =
    (l.at + 2 * length l.bytes ≤ length l.initial.text) × (length l.text ≡ length l.initial.text) × (l.i ≤ length l.bytes) × (rest l.text l.at l.bytes l.i ≡ rest l.initial.text l.at l.bytes 0)
