pub mod Elements
pub mod Reading
