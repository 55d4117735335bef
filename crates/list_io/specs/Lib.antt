pub mod Items
pub mod ReportText
pub mod Spelled
