-- Laws of the permutation. Callers use `States` and `Bytes`, and where they look into a state or a round `Steps`, `Planes`, `Rounds`, `Grid`, `Bits`, `Words`,
-- `Offsets`, `Table` and `Xor`; `Claims` is what is claimed of the steps, from `Bitwise`, `RegisterBits` and `ConstantBits`; the rest serves the functions' own proofs.
pub mod Xor
pub mod Table
pub mod Grid
pub mod Words
pub mod Offsets
pub mod Constants
pub mod Rounds
pub mod Steps
pub mod States
pub mod Bytes
pub mod Bits
pub mod Complement
pub mod Planes
pub mod Bitwise
pub mod RegisterBits
pub mod ConstantBits
pub mod Claims
