pub mod Attributes
pub mod Kept
pub mod Repeated
pub mod Running
pub mod Continued
pub mod Views
pub mod Inner
