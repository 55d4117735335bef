pub mod KindText
pub mod ModuleText
pub mod OpText
pub mod OperandText
pub mod WordText
