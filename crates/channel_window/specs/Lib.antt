pub mod Checked
pub mod Marking
pub mod MarkingLaws
pub mod Listed
pub mod WindowLaws
pub mod Showing
pub mod Inner
