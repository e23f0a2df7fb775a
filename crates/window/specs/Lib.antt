pub mod Window
pub mod Totals
pub mod Ranges
pub mod History
