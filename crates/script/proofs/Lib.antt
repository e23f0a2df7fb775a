pub mod ReaderLaws
pub mod Decimals
pub mod NumberLaws
pub mod ListLaws
pub mod Meaning
pub mod Worked
