pub mod Walks
pub mod Combined
pub mod Headers
pub mod Owned
pub mod Laws
