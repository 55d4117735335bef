mod Least
mod Products
pub mod Merging
