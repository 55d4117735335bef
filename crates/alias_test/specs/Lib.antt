pub mod Elements
pub mod Givers
pub mod Laws
pub mod Normal
pub mod Relations
pub mod Runs
pub mod Symbols
pub mod Tables
