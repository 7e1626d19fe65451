-- What the benchmarks' exports do.
pub mod Repeat
pub mod Pieces
