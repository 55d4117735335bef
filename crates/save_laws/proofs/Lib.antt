pub mod Saves
pub mod Pairs
pub mod Values
pub mod Again
mod Rows
