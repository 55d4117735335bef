pub mod Appended
pub mod Tables
pub mod Used
