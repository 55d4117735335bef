pub mod Ranges
pub mod Groups
pub mod Layouts
pub mod Standing
pub mod Laws
