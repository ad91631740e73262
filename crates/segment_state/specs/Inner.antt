pub mod Fronts
pub mod Running
pub mod Tags
