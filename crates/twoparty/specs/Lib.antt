pub mod Party
pub mod Shown
