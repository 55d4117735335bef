pub mod Together
pub mod Seats
pub mod Strands
pub mod Fetches
pub mod Digits
pub mod Words
pub mod Loops
