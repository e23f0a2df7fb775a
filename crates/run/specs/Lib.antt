pub mod Loop
pub mod Run
pub mod Shown
