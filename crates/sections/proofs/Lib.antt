pub mod Cuts
pub mod SectionLaws
