pub mod Teams
pub mod Reduced
pub mod Added
pub mod Idle
