pub mod Modules
pub mod Lists
pub mod Filled
pub mod Opened
pub mod Sites
