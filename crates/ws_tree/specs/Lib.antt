pub mod Words
pub mod Grammatical
pub mod Opened
pub mod Trees
pub mod Calls
