pub mod Capped
pub mod Orders
