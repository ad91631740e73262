pub mod Lines
pub mod Heading
pub mod Rows
