pub mod Checked
pub mod Listed
pub mod Placing
pub mod Terms
pub mod Marked
