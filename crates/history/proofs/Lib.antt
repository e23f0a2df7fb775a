pub mod Choosing
pub mod Receiving
pub mod Providing
pub mod Theorem
pub mod Worked
