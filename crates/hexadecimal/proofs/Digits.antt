-- What a caller knows of digits that fit.
-- Assumes nothing.
use mathlib.Core.Path.{◌≡◌}
use mathlib.Core.List.{List, ◌++◌}
use mathlib.Core.Bool.{true}
use Prim.Native.Nat.{ℕ, ◌+◌, ◌*◌, ◌≤◌}
use borrow.Author.Tests.{le-leb}
use lib.ListN.{length, take, drop}
use Rattle.hexadecimal.specs.Hex.{hex_of, fits, with_hex}

module _ (text : List ℕ) (at : ℕ) (bytes : List ℕ) (room : at + 2 * length bytes ≤ length text) where
  pub fits_room : fits (length text) at (length bytes) ≡ true
  fits_room = le-leb (at + 2 * length bytes) (length text) room

  pub hex_room : with_hex text at bytes ≡ take at text ++ hex_of bytes ++ drop (at + 2 * length bytes) text
  unfolding with_hex
  hex_room = rw fits_room
