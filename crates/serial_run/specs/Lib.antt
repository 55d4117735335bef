pub mod Hands
pub mod Samples
