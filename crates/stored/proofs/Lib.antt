pub mod StoredLaws
pub mod Reading
