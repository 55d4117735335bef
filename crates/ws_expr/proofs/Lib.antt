pub mod Chains
pub mod Powers
pub mod Lists
pub mod Heads
pub mod Triplets
