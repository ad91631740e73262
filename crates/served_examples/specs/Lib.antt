pub mod Requests
pub mod Answers
pub mod Clients
pub mod Runs
pub mod Kept
pub mod Gone
