pub mod Matching
pub mod Sides
