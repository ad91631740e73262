pub mod Instant
pub mod Digits
pub mod Times
pub mod Inner
