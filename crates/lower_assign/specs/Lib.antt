pub mod Statements
pub mod Known
pub mod Opened
