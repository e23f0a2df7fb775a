pub mod Agreement
pub mod Starting
pub mod Refusals
pub mod Collected
pub mod Reading
pub mod Example
