pub mod NoFaults
pub mod SmallExpressions
pub mod Tables
pub mod SmallStatements
pub mod Constancy
pub mod Constants
pub mod SmallDeclarations
pub mod Accepted
