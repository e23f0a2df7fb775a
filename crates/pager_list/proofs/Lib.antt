pub mod Packed
pub mod Chained
