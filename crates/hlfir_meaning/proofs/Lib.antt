pub mod Compute
pub mod Walks
