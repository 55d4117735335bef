pub mod Expressions
pub mod Good
pub mod Moves
pub mod Units
