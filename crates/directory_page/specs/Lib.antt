pub mod Line
pub mod Page
pub mod Judging
pub mod Shown
