pub mod OnLiterals
mod Gone
