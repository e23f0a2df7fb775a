pub mod Elements
pub mod Body
