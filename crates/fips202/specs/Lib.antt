pub mod Published
pub mod Transcript
pub mod Claims
