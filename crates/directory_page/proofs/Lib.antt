pub mod Places
pub mod Lines
pub mod Entries
pub mod Pages
pub mod Answers
pub mod Reading
pub mod Worked
