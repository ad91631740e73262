pub mod Reasons
pub mod Lengths
pub mod HeadReads
pub mod Fronts
pub mod Whole
pub mod Sent
