pub mod Orders
pub mod Seen
pub mod Uses
