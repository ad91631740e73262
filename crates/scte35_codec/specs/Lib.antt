pub mod Fault
pub mod Layout
pub mod Section
pub mod Reading
pub mod Writing
pub mod Hexadecimal
pub mod Crc
pub mod Inner
