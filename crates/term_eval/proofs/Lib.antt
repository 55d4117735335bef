mod Front
mod Made
mod RowLoops
mod Rows
pub mod Columns
mod Elements
mod Forms
pub mod Along
pub mod Integers
pub mod SmallTerms
pub mod Variables
mod LeftSides
pub mod WalkValues
pub mod ExprWeights
mod Scalars
mod Checks
mod Weights
pub mod TermValues
pub mod Stepped
mod OperandShapes
pub mod WalkForms
pub mod SmallWalk
mod PlaceOf
