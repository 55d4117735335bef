pub mod InOrder
pub mod Rows
pub mod PartCells
pub mod Joins
pub mod Terms
pub mod Stretch
mod WorkedRows
