mod Compute
pub mod Bodies
pub mod Leading
pub mod Operands
pub mod Operating
pub mod Pushing
pub mod Sections
pub mod Sounding
pub mod Walked
