pub mod Entering
pub mod Keeping
pub mod Numbered
pub mod NumberedKinds
pub mod Order
pub mod Outward
mod RulesRows
pub mod Sites
pub mod Valued
