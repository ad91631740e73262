pub mod Clients
pub mod Decisions
pub mod Inner
