pub mod Segments
pub mod Compiled
pub mod Acts
pub mod Idle
pub mod Early
mod Rows
