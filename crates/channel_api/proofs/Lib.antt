pub mod Apart
pub mod Fronts
pub mod Lines
pub mod Names
pub mod NamedPaths
