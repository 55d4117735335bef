pub mod Alike
pub mod Apart
mod BoxRows
pub mod Boxes
pub mod Declares
pub mod Dimensions
pub mod Fitting
pub mod Giving
pub mod Lasts
pub mod Meets
mod NormalRows
pub mod Numbers
pub mod Ranges
pub mod Reaching
mod RelationRows
pub mod Selecting
pub mod Sited
pub mod Strided
pub mod Tabled
pub mod Valued
pub mod Walking
pub mod Whole
