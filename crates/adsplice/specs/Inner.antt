pub mod Leaving
pub mod Serving
