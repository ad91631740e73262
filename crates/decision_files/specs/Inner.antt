pub mod Views
pub mod Ids
pub mod Members
