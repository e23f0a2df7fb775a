pub mod Segments
pub mod Facts
pub mod Making
pub mod Announcing
pub mod Building
pub mod Refusals
pub mod Indexed
pub mod Table
