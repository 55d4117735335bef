pub mod Scalars
pub mod Partials
pub mod Phases
pub mod Free
pub mod Course
pub mod Faults
pub mod Laws
