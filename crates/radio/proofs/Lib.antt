pub mod Damage
pub mod Told
pub mod Tuning
pub mod Named
