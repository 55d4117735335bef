pub mod Appended
pub mod Forms
pub mod Holding
pub mod Listed
pub mod Named
pub mod Positions
pub mod Reaching
pub mod Turns
