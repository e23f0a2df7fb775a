pub mod Elements
pub mod Bodies
pub mod Written
pub mod Worked
