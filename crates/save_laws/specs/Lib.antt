pub mod Saves
pub mod Pairs
pub mod Values
