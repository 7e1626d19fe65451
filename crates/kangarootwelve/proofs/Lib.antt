-- Laws of KT and HopMAC. Crates above use `Laws` (what KT's machine owes), `Streaming` (the list theorem and what follows from it), `Answers`
-- and `Pieces` (what a call does, and calls in a row), `Published`, `Encoding`, `Merged`, `Nodes` (the sponge's calls in a row), `Tags` (the comparison, and what
-- the tag check's answer says) and `Claims`; the rest serves the functions' own proofs.
pub mod Published
mod Numbered
mod CountedTree
mod Due
pub mod Laws
pub mod Streaming
pub mod Answers
pub mod Encoding
pub mod Merged
pub mod Pieces
pub mod Tags
pub mod Nodes
mod Tests
mod Cases
mod Numbers
mod Abreast
mod Values
mod OneGo
mod FourLeaves
mod Feed
mod Mac
mod Examples
pub mod Claims
mod CountExamples
