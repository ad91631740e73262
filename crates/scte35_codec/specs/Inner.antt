pub mod Writing
pub mod Hexadecimal
