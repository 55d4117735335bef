pub mod Arounds
pub mod Tallies
