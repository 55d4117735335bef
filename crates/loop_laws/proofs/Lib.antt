pub mod Bridge
pub mod Joined
pub mod Units
pub mod Touched
pub mod Keyed
pub mod Direct
pub mod Sets
pub mod Words
pub mod Placed
mod Rows
