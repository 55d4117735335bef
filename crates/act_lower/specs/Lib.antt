pub mod Sections
pub mod Code
pub mod Covered
pub mod Standing
pub mod Fits
pub mod Leads
pub mod Walked
pub mod Examples
