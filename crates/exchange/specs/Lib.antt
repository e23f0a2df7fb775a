pub mod Exchange
pub mod Stations
pub mod Transfer
pub mod Order
pub mod Damaging
pub mod Lines
pub mod Script
