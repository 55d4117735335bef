pub mod BoundsListed
pub mod Lefts
pub mod Declares
