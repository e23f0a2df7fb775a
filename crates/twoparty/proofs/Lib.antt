pub mod Reaches
pub mod Passing
pub mod Standing
