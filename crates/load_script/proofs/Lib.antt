pub mod Texts
pub mod Filling
pub mod Meaning
pub mod Right
