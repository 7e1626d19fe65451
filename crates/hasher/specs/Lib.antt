pub mod Function
pub mod Model
pub mod Claims
pub mod Outcome
