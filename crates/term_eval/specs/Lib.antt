pub mod Made
pub mod Limits
pub mod Lists
pub mod Targets
pub mod Words
