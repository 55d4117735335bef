pub mod Marks
pub mod Checks
pub mod Acts
pub mod Standard
pub mod Stands
pub mod Stepped
