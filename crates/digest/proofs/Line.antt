-- The digits at the line's beginning are those of the message that left the run; s and o are what `finish` answers and writes, text what
-- `hexadecimal::put` does.
-- Assumes nothing.
use mathlib.Core.Path.{◌≡◌, ap, ◌∙◌}
use mathlib.Core.List.{List, [], ◌++◌}
use Prim.Native.Nat.{ℕ, ◌+◌, ◌*◌, ◌≤◌}
use lib.ListN.{length, take, drop}
use Rattle.hexadecimal.specs.Hex.{hex_of, with_hex}
use Rattle.hexadecimal.proofs.Digits.{hex_room}
use Rattle.kangarootwelve.specs.Published.{kt128}
use Rattle.kangarootwelve.specs.declared.Run.{Run}
use Rattle.digest.specs.Digest.{Left, Digests}

pub digits_written : (r : Run) (s : ℕ) (o old text : List ℕ) → Digests r 32 s o → 64 ≤ length old → length o ≡ 32 → text ≡ with_hex old 0 o
    → (m : List ℕ) → Left r m → text ≡ hex_of (kt128 m [] 32) ++ drop 64 old
digits_written r s o old text digest h k text-is m l =
    let room : 0 + 2 * length o ≤ length old = rw k h in
    let put : take 0 old ++ hex_of o ++ drop (0 + 2 * length o) old ≡ hex_of o ++ drop 64 old = rw k in
    text-is ∙ hex_room old 0 o room ∙ put ∙ ap (λ (x : List ℕ). hex_of x ++ drop 64 old) (digest m l).1
