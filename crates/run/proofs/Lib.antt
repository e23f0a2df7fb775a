pub mod Machines
pub mod Left
pub mod Counted
pub mod Following
pub mod Running
pub mod Endings
pub mod Showing
pub mod Longest
