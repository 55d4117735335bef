mod WorkedRows
pub mod Copying
pub mod Grouping
pub mod Laid
pub mod Mattering
pub mod Naming
pub mod Packing
pub mod Ranged
pub mod Replacing
pub mod Rooms
pub mod Updating
