pub mod Banks
pub mod Sums
