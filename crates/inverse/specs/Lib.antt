-- What undoes each step of Keccak-p[1600], the round and the rounds; and what is claimed of them.
pub mod Inverse
pub mod Claims
