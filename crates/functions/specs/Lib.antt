pub mod Functions
pub mod Keyed
pub mod Kt
