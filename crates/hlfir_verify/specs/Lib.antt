pub mod Laws
pub mod Looks
pub mod Rising
pub mod Verdicts
pub mod Walks
