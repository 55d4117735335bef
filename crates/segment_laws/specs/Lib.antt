pub mod Segments
pub mod Compiled
pub mod Acts
