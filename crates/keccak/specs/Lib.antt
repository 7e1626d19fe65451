-- What the permutation is, from FIPS 202: the state, the five steps and the round, the rounds, the rules of the two tables, the steps on bits,
-- and what is claimed of them.
pub mod State
pub mod Round
pub mod Permutation
pub mod Rules
pub mod Bitwise
pub mod Claims
