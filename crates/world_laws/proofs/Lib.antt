pub mod Fitting
pub mod Filling
pub mod Listing
pub mod Leaving
pub mod Yielding
