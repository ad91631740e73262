pub mod Limits
pub mod Replies
pub mod Requests
pub mod Received
pub mod Arriving
pub mod Inner
