pub mod LineViews
pub mod Answers
pub mod Light
pub mod Inner
