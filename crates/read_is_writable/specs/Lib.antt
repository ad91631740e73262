pub mod Read
pub mod Laws
pub mod Limits
