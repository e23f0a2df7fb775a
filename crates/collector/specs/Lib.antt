pub mod Record
pub mod Collecting
pub mod Handed
