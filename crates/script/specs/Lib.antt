pub mod Decimal
pub mod Script
pub mod Reader
pub mod Answers
pub mod Left
