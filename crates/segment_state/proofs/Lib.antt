pub mod Fronts
pub mod KeyLemmas
pub mod Ranges
pub mod Timed
pub mod EqualParts
pub mod Repeating
pub mod Joined
