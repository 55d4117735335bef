pub mod Selects
pub mod Parts
pub mod Subscripts
pub mod Laws
pub mod Joined
pub mod Lefts
pub mod Yielded
