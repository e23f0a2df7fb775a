pub mod Record
pub mod Replies
pub mod Requests
pub mod Table
