-- Four states abreast in one slice: where each stands, what their permutation does and what is claimed of it, and what the private functions do to one
-- state or to all.
pub mod Four
pub mod Inside
pub mod Planes
pub mod Claims
