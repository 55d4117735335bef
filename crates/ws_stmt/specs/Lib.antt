pub mod Roles
pub mod Statements
pub mod Parsing
pub mod Firsts
