pub mod Replies
pub mod Events
