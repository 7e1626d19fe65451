-- Crates above use `Digits`.
pub mod Digits
mod Shown
mod Stores
