pub mod Fronts
pub mod Plain
pub mod Refusals
