-- What two runs of one function that absorb one piece have in common.
pub mod Claims
