pub mod Banks
pub mod Checksum
