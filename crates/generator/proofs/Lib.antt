pub mod Octets
pub mod Fronts
pub mod Answers
pub mod TwoCalls
pub mod Named
