pub mod Store
pub mod Kept
pub mod Fitting
