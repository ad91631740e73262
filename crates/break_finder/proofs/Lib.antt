pub mod Members
pub mod Carried
pub mod KeptLaws
pub mod Walked
pub mod TagIds
pub mod FirstEntered
pub mod Halvings
pub mod SpanLaws
pub mod Quiet
mod Staying
pub mod Again
pub mod NothingNew
pub mod Candidates
pub mod Placed
pub mod OrderedSpans
