-- Laws of the sponge. Those marked `pub` serve the crates above: `Xor`, `Published` (the fold computes the published sponge), `Position`, `Count`, `Valid`
-- (the calls' two cases), `Following` to `Corollaries` (lists of calls, and what follows), `Lending` (calls that lend words), `Lent`, `Answers`, `Pieces` and
-- `PieceStatus` (one call, and calls in a row), `Abreast` (the calls on four states), `Typed`. The rest serves the functions' own proofs.
pub mod Xor
pub mod XorByte
pub mod Waiting
pub mod Published
pub mod Position
pub mod Count
pub mod Digits
pub mod FirstStatus
pub mod Lent
pub mod Valid
pub mod Following
pub mod Streaming
pub mod Lending
pub mod Joining
pub mod Done
pub mod Both
pub mod Reachable
pub mod Corollaries
pub mod Answers
pub mod Pieces
pub mod PieceStatus
pub mod Words
mod Output
pub mod Blocks
pub mod Abreast
pub mod Typed
