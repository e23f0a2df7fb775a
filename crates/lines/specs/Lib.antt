pub mod LineText
pub mod Numbers
pub mod Putting
