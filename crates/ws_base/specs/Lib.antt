pub mod Numbers
pub mod Outcomes
pub mod Sorts
pub mod Words
pub mod Laws
