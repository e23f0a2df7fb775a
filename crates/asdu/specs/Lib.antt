pub mod Number
pub mod Codes
pub mod Elements
pub mod Time
pub mod Sizes
pub mod Header
pub mod Entry
