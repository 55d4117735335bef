pub mod Pieces
pub mod Lists
pub mod Counts
pub mod Tallies
pub mod Limits
