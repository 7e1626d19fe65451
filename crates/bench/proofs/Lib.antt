-- The crate `bench_abreast` uses `Absorbed` and `Hashers`.
pub mod Absorbed
pub mod Hashers
mod Statuses
mod Started
mod StartedHashers
