mod Rows
mod Written
pub mod Counted
pub mod Giving
pub mod Harmed
pub mod IndexNames
pub mod OneRank
pub mod Reached
pub mod Stepped
pub mod Walked
pub mod Wanting
