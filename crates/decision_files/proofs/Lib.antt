pub mod Lists
pub mod Bounds
pub mod Keeping
pub mod SaidIds
