pub mod Sequence
pub mod Filling
