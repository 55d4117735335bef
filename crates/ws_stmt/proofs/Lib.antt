pub mod Lists
pub mod Parts
pub mod Declarations
pub mod Forms
