pub mod Worlds
pub mod Yields
pub mod Meanings
