-- Laws of four states in one slice. Callers use `Four`; `Claims` shows what is claimed, and the rest serves the functions' own proofs.
pub mod Four
pub mod Planes
pub mod Claims
