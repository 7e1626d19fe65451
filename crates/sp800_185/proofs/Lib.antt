pub mod Injective
pub mod Blocks
pub mod EncodingExamples
pub mod Told
pub mod Lengths
pub mod Laws
pub mod Ranges
pub mod Absorbed
pub mod OneGo
pub mod Claims
pub mod Joins
pub mod Reached
pub mod Starting
pub mod Own
pub mod Instances
pub mod Bit
pub mod CshakeRuns
pub mod CshakeJoins
pub mod Family
mod Encoding
mod Prefixes
mod Cases
mod Statuses
mod Starts
mod Digest
