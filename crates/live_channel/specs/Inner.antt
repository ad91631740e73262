pub mod Accepting
pub mod Marks
pub mod LastText
