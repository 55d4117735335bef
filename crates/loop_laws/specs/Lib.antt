pub mod Moves
pub mod Loops
pub mod Laws
pub mod Sets
