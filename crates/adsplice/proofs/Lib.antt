pub mod Elsewhere
pub mod Serving
