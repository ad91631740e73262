pub mod Writable
pub mod AllPods
pub mod Pieces
pub mod Given
pub mod Told
pub mod Whole
pub mod Always
