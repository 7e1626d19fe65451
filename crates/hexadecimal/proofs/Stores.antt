-- What `put` asks: the digits stored one after the other are the text that its contract names.
-- Assumes nothing.
use mathlib.Core.Path.{◌≡◌, refl}
use mathlib.Core.List.{List, [], ◌∷◌}
use Prim.Native.Nat.{ℕ, ◌+◌, ◌*◌, ◌≤◌, ◌<◌}
use native.Mathlib.Omega.{arith}
use lib.ListN.{length, drop, drop_of_length-le}
use lib.Seq.{sets, sets-eq}
use borrow.Author.Tests.{le-leb, lt-leb}
use Rattle.hexadecimal.specs.Hex.{hex_of, with_hex}

length_hex : (bytes : List ℕ) → length (hex_of bytes) ≡ 2 * length bytes
length_hex [] = refl
length_hex (b ∷ bs) = let n : length (hex_of bs) ≡ 2 * length bs = length_hex bs in omega arith

-- the text once the bytes from the i-th on are put too
abbrev pub rest : List ℕ → ℕ → List ℕ → ℕ → List ℕ
rest text at bytes i = sets text (at + 2 * i) (hex_of (drop i bytes))

-- after the last turn nothing is left to put
pub put-end : (text : List ℕ) (at : ℕ) (bytes : List ℕ) (i : ℕ) → length bytes ≤ i → rest text at bytes i ≡ text
put-end text at bytes i h = rw (drop_of_length-le bytes {i = i} h)

-- all of them
pub put_all : (text : List ℕ) (at : ℕ) (bytes : List ℕ) → at + 2 * length bytes ≤ length text → rest text at bytes 0 ≡ with_hex text at bytes
unfolding with_hex
put_all text at bytes h =
    let z : at + 2 * 0 ≡ at = omega arith in
    let n : length (hex_of bytes) ≡ 2 * length bytes = length_hex bytes in
    let room : at + length (hex_of bytes) ≤ length text = omega arith in
    rw (le-leb (at + 2 * length bytes) (length text) h, z, ← n) (sets-eq (hex_of bytes) text at room)

-- none
pub put-none : (text : List ℕ) (at : ℕ) (bytes : List ℕ) → length text < at + 2 * length bytes → text ≡ with_hex text at bytes
unfolding with_hex
put-none text at bytes h = rw (lt-leb (at + 2 * length bytes) (length text) h)
