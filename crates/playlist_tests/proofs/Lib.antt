pub mod Unmarked
