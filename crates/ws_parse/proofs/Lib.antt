pub mod Firsts
pub mod Steps
pub mod Turns
pub mod States
pub mod Walks
pub mod Ends
pub mod Runs
