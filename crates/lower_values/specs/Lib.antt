pub mod Scopes
pub mod Lowerings
pub mod Operations
pub mod References
pub mod Values
pub mod Folding
pub mod Lists
pub mod Opened
