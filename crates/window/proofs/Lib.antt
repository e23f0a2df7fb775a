pub mod Latest
pub mod Ring
pub mod Right
pub mod Sums
pub mod History
pub mod Ranges
pub mod Answers
pub mod Worked
