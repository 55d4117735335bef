pub mod Allocation
pub mod Input
pub mod Machine
pub mod Known
