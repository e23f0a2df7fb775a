pub mod Page
pub mod Range
pub mod Octets
pub mod SizesLaws
pub mod EntryLaws
