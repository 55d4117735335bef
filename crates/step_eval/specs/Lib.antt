pub mod Variables
pub mod Halts
pub mod Narrow
pub mod Masked
pub mod Events
pub mod Small
pub mod Combinations
pub mod Forall
