pub mod Directions
pub mod Procedure
pub mod Admission
pub mod Building
