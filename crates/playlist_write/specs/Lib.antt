pub mod Spelling
pub mod Owed
pub mod WellFormed
pub mod Denoted
pub mod Laws
pub mod Inner
pub mod Laid
