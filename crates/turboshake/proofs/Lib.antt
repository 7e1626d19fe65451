pub mod Published
pub mod Examples
pub mod Claims
pub mod AtRate
