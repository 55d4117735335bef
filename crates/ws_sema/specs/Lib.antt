pub mod Declarations
pub mod Seen
pub mod Statements
pub mod Checks
pub mod Examples
