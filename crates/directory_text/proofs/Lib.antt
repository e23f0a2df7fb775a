pub mod OctetLaws
pub mod Meaning
pub mod Worked
