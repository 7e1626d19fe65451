-- Nothing is lost between blocks.
pub mod Sponge
pub mod Runs
pub mod AfterStart
pub mod Totals
pub mod Claims
