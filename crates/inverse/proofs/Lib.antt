-- Laws of the inverse. Callers use `Claims`; the rest serves it and the functions' own proofs.
pub mod Filling
pub mod Fives
pub mod Reordered
pub mod Rotations
pub mod Digits
pub mod Chi
pub mod RhoPi
pub mod Parities
pub mod Theta
pub mod Rounds
pub mod Undoing
pub mod Claims
