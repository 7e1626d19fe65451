pub mod Laws
pub mod Streaming
pub mod Claims
pub mod Counts
pub mod Pieces
pub mod OneGo
pub mod Cases
pub mod Absorbed
mod Guards
