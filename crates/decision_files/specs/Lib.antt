pub mod Json
pub mod Decided
pub mod Inner
