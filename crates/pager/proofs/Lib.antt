pub mod Entries
pub mod Sent
pub mod Chained
pub mod Frames
