pub mod Published
pub mod Transcript
pub mod Examples
pub mod Claims
