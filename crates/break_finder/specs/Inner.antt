pub mod Known
pub mod Entering
pub mod Entrances
pub mod Kept
