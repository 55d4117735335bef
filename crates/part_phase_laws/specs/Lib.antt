pub mod Parts
pub mod Stretch
