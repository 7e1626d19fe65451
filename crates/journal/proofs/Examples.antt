-- The days of request Q-1, as one statement: `AB` then `C`, `A` then `BC`, and an empty event.
-- Assumes nothing.
use mathlib.Core.Path.{◌≡◌}
use mathlib.Core.List.{[], ◌∷◌}
use native.Mathlib.Omega.{arith}
use Rattle.kangarootwelve.specs.Published.{length_encode}
use Rattle.kangarootwelve.proofs.Encoding.{encode_zero, encode_byte}
use Rattle.journal.specs.Published.{framed, message}

messages : message ((0x41 ∷ 0x42 ∷ []) ∷ (0x43 ∷ []) ∷ []) ∷ message ((0x41 ∷ []) ∷ (0x42 ∷ 0x43 ∷ []) ∷ []) ∷ message ([] ∷ []) ∷ []
    ≡ (0x41 ∷ 0x42 ∷ 2 ∷ 1 ∷ 0x43 ∷ 1 ∷ 1 ∷ []) ∷ (0x41 ∷ 1 ∷ 1 ∷ 0x42 ∷ 0x43 ∷ 2 ∷ 1 ∷ []) ∷ (0 ∷ []) ∷ []
unfolding framed
messages =
    let one : length_encode 1 ≡ 1 ∷ 1 ∷ [] = encode_byte 1 (omega arith) (omega arith) in
    let two : length_encode 2 ≡ 2 ∷ 1 ∷ [] = encode_byte 2 (omega arith) (omega arith) in
    rw (encode_zero, one, two)
