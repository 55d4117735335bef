pub mod Marks
pub mod Checks
pub mod Acts
pub mod Saver
pub mod Standard
pub mod Repeats
pub mod Steps
pub mod Stands
pub mod Stepped
mod Rows
