pub mod Kept
pub mod KeptLines
pub mod Places
