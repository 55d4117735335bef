pub mod Grammar
pub mod Parsing
pub mod Ranks
pub mod Readings
