pub mod Load
pub mod Answers
